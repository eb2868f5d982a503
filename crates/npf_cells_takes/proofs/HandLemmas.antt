-- Connections that a pass has, without those of a slot.
use Rattle.std.{specs.List.{Contains, filter}, proofs.Common.{◌≡◌, ◌≢◌, ℕ, Bool, true, false, cond, eqb, eq-eqb, ne_eqb, List, [], ◌∷◌, refl, sym, ap, ◌∙◌}}
use Rattle.npf_shelf.proofs.ListLemmas.{Contains-filter_parts, Contains-filter_from}
use Rattle.npf_core.specs.declared.{conn_id.ConnId.ConnId, found.Found.Found}
use Rattle.npf_seats.{specs.Sums.{occurs, others_than}, proofs.ListLemmas.{left_same, left_others}}
use Rattle.npf_cells_lives.specs.Deaths.{slots_named, ids_elsewhere}

-- their slots
slots_elsewhere : (slot : ℕ) (ids : List ConnId) → slots_named (ids_elsewhere slot ids) ≡ others_than slot (slots_named ids)
slots_elsewhere slot [] = refl
slots_elsewhere slot (id ∷ ids) = by_test (slots_elsewhere slot ids) (eqb id.slot slot)
  where
    by_test : slots_named (ids_elsewhere slot ids) ≡ others_than slot (slots_named ids) → (b : Bool) →
        slots_named (cond (cond b false true) (id ∷ ids_elsewhere slot ids) (ids_elsewhere slot ids)) ≡ cond
        (cond b false true) (id.slot ∷ others_than slot (slots_named ids)) (others_than slot (slots_named ids))
    by_test same true = same
    by_test same false = ap (λ xs. id.slot ∷ xs) same

-- none of the slot is among them, and as many of each other
pub none_here : (slot p : ℕ) (ids : List ConnId) → p ≡ slot → occurs p (slots_named (ids_elsewhere slot ids)) ≡ 0
none_here slot p ids e = ap (occurs p) (slots_elsewhere slot ids) ∙ (ap (λ q. occurs q (others_than slot (slots_named ids))) e ∙ left_same slot (slots_named ids))

pub as_many : (slot p : ℕ) (ids : List ConnId) → p ≢ slot → occurs p (slots_named (ids_elsewhere slot ids)) ≡ occurs p (slots_named ids)
as_many slot p ids ne = ap (occurs p) (slots_elsewhere slot ids) ∙ left_others slot p (slots_named ids) ne

-- whoever is among them was before, and is of another slot
pub was_elsewhere : (slot : ℕ) (ids : List ConnId) (id : ConnId) → Contains (ids_elsewhere slot ids) id → Contains ids id × (id.slot ≢ slot)
was_elsewhere slot ids id c =
    let left = Contains-filter_parts (λ (x : ConnId). cond (eqb x.slot slot) false true) ids id c in
    (left.0, λ e. absurd (let no : false ≡ true = sym (ap (λ b. cond b false true) (eq-eqb id.slot slot e)) ∙ left.1 in cc))

-- keys of connections of other slots stay
pub given_elsewhere : (slot : ℕ) (given : List Found) (g : Found) → Contains given g → g.id.slot ≢ slot → Contains (filter (λ (x : Found). cond (eqb x.id.slot slot) false true) given) g
given_elsewhere slot given g c ne = Contains-filter_from (λ (x : Found). cond (eqb x.id.slot slot) false true) given g c (ap (λ b. cond b false true) (ne_eqb g.id.slot slot ne))
