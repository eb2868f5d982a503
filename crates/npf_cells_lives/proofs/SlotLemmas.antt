-- The machine's slots, before a claim of one and after it.
use Rattle.std.specs.List.{Contains}
use Rattle.std.proofs.Common.{◌≡◌, ◌≢◌, ℕ, ◌+◌, Bool, true, false, cond, eqb, eq-eqb, ne_eqb, List, [], ◌∷◌, set, refl, sym, ap, ◌∙◌, subst, ⊎_elim, arith}
use Rattle.std.proofs.lemmas.{Bool.cases_eq, List.Elements.{Contains-append_left, Contains-append_right, Contains-push}}
use mathlib.Core.Option.{some}
use lib.ListN.{get_elem?}
use Rattle.npf_core.specs.declared.{act.Act.TheVariants.Claim, conn_id.ConnId.ConnId, slot.Slot.Slot, stage.Stage.Stage}
use Rattle.npf_core.specs.{declared.stage.Stage.TheVariants.{Vacant, Building, Live, Dead}, Machine.{Machine, stage_at, stage_of}, Meaning.Meaning}
use Rattle.npf_core.{specs.{NextState.{changed, after_act}, Replies.claimed_id}, proofs.BuildingLemmas.claim_builds}
use Rattle.npf_cells_words.specs.declared.layout.Pool.{Pool, TheVariants.{Slots, Nodes}}
use Rattle.npf_seats.{specs.Sums.occurs, proofs.{ListLemmas.{one_where, occurs-cons, occurs_or}, PrefixLemmas.cons_cases, SumLemmas.sum-set}}
use Rattle.npf_cells_lives.specs.{declared.pools.PoolSide.PoolSide, Conns.{FitsBuilds, unstored_by}, Pools.{claim_bit, taken}, Turns.stage_phase}
use Rattle.npf_cells_lives.proofs.{ConnLemmas.{BuildsIn, builds-set}, PoolLemmas.taken-set}

-- a slot whose bit is clear is vacant
pub clear_vacant : {S : Type 0} (stage : Stage S) → claim_bit stage ≡ 0 → stage ≡ Vacant
clear_vacant Vacant e = refl
clear_vacant (Building seat) e = cc
clear_vacant (Live flow steps) e = cc
clear_vacant Dead e = cc

-- no connection of a vacant slot is Building
none_building : {S : Type 0} (x : Slot S) (inc seat : ℕ) → x.stage ≡ Vacant → stage_at x inc ≡ Building seat → ⊥
none_building x inc seat vacant built = by_test (eqb x.inc inc) built
  where
    by_test : (b : Bool) → cond b x.stage Vacant ≡ Building seat → ⊥
    by_test true e = let no = sym vacant ∙ e in cc
    by_test false e = cc

module _ {S A R : Type 0} (m : Meaning S A R) (k : Machine S) (seat packet slot : ℕ) where
  abbrev pub claimed : Machine S
  claimed = after_act m k seat (Claim packet slot)

  -- the slot is claimed after it, and no other changes
  pub now_taken : claim_bit (claimed.slot slot).stage ≡ 1
  now_taken = ap (λ b. claim_bit (cond b (changed m seat (Claim packet slot) (k.slot slot)) (k.slot slot)).stage) (eq-eqb slot slot refl)

  pub now_building : stage_phase (claimed.slot slot).stage ≡ 0
  now_building = ap (λ b. stage_phase (cond b (changed m seat (Claim packet slot) (k.slot slot)) (k.slot slot)).stage) (eq-eqb slot slot refl)

  pub slot_else : (p : ℕ) → p ≢ slot → claimed.slot p ≡ k.slot p
  slot_else p ne = ap (λ b. cond b (changed m seat (Claim packet slot) (k.slot p)) (k.slot p)) (ne_eqb slot p (λ e. ne (sym e)))

  module _ {V : Type 0} (side_of : V → PoolSide) (views : List V) (id : ℕ) (v w : V) (at : get_elem? views id ≡ some v) where
    -- what else is taken stays
    pub taken_else : (published : List ℕ) → (side_of w).nodes ≡ (side_of v).nodes → (side_of w).unfreed ≡ (side_of v).unfreed → (pool : Pool) (p : ℕ) →
        (pool ≡ Slots → p ≢ slot) → taken side_of published claimed (set views id w) pool p ≡ taken side_of published k views pool p
    taken_else published same back Slots p two = ap (λ (x : Slot S). claim_bit x.stage) (slot_else p (two refl))
    taken_else published same back Nodes p two = taken-set side_of published k views id v w at same back Nodes p

    module _ (mine : id ≡ seat) (vacant : (k.slot slot).stage ≡ Vacant) (kept : BuildsIn side_of k views)
        (more : (side_of w).builds ≡ claimed_id k slot ∷ (side_of v).builds) (owes : (side_of w).unstored ≡ slot ∷ (side_of v).unstored) where
      still : {n : ℕ} (i : ConnId) → stage_of k i ≡ Building n → stage_of claimed i ≡ Building n
      still {n} i built = ⊎_elim
          (λ (same : i.slot ≡ slot). absurd (none_building (k.slot slot) i.inc n vacant (subst (λ p. stage_at (k.slot p) i.inc ≡ Building n) same built)))
          (λ (ne : i.slot ≢ slot). ap (λ (x : Slot S). stage_at x i.inc) (slot_else i.slot ne) ∙ built)
          (cases_eq i.slot slot)

      -- nobody had to store the vacant slot's incarnation
      unowed : occurs slot (side_of v).unstored ≡ 0
      unowed = ⊎_elim
          (λ none. none)
          (λ c.
          let owed = (kept id v at).owing slot c in
          absurd (none_building (k.slot slot) owed.id.inc id vacant (subst (λ p. stage_at (k.slot p) owed.id.inc ≡ Building id) owed.there ((kept id v at).building owed.id owed.built))))
          (occurs_or slot (side_of v).unstored)

      one_more : FitsBuilds claimed id (claimed_id k slot ∷ (side_of v).builds) (slot ∷ (side_of v).unstored)
      one_more = record {
        building = λ i c. ⊎_elim
            (λ (new : claimed_id k slot ≡ i). ap (stage_of claimed) (sym new) ∙ (claim_builds m k seat packet slot ∙ ap (λ n. Building n) (sym mine)))
            (λ (old : Contains (side_of v).builds i). still i ((kept id v at).building i old))
            (cons_cases (claimed_id k slot) i (side_of v).builds c);
        owing = λ p c. ⊎_elim
            (λ (new : slot ≡ p). record {
              id = claimed_id k slot;
              built = Contains-append_left (claimed_id k slot ∷ []) (side_of v).builds (claimed_id k slot) (Contains-push [] (claimed_id k slot));
              there = new;
            })
            (λ (old : Contains (side_of v).unstored p).
            let owed = (kept id v at).owing p old in
            record { id = owed.id; built = Contains-append_right (claimed_id k slot ∷ []) (side_of v).builds owed.id owed.built; there = owed.there })
            (cons_cases slot p (side_of v).unstored c);
        once = λ p. let more' = occurs-cons p slot (side_of v).unstored in let before = (kept id v at).once p in ⊎_elim
            (λ (e : slot ≡ p). let none = ap (λ q. occurs q (side_of v).unstored) (sym e) ∙ unowed in
            let one : one_where (eqb slot p) ≡ 1 = ap one_where (eq-eqb slot p e) in omega (arith, more', none, one))
            (λ (ne : slot ≢ p). let one : one_where (eqb slot p) ≡ 0 = ap one_where (ne_eqb slot p ne) in omega (arith, more', before, one))
            (cases_eq slot p);
      }

      -- who builds a connection builds it still, and the seat builds one more
      pub builds_more : BuildsIn side_of claimed (set views id w)
      builds_more = builds-set side_of claimed views id w
          (subst (λ (y : List ConnId × List ℕ). FitsBuilds claimed id y.0 y.1) (λ t. (sym more t, sym owes t)) one_more)
          (λ j u e. record {
            building = λ i c. still i ((kept j u e).building i c);
            owing = (kept j u e).owing;
            once = (kept j u e).once;
          })

      -- the slot's word is now one short of its incarnation
      pub incs_more : (word : ℕ → ℕ) (p : ℕ) → word p + unstored_by side_of views p ≡ (k.slot p).inc → word p + unstored_by side_of (set views id w) p ≡ (claimed.slot p).inc
      incs_more word p was =
          let sums = sum-set (λ (u : V). occurs p (side_of u).unstored) views id v w at in
          let mine' = ap (occurs p) owes in
          let more' = occurs-cons p slot (side_of v).unstored in
          ⊎_elim
          (λ (e : slot ≡ p).
          let one : one_where (eqb slot p) ≡ 1 = ap one_where (eq-eqb slot p e) in
          let next : (claimed.slot p).inc ≡ (k.slot p).inc + 1 = ap (λ b. (cond b (changed m seat (Claim packet slot) (k.slot p)) (k.slot p)).inc) (eq-eqb slot p e) in
          omega (arith, was, sums, mine', more', one, next))
          (λ (ne : slot ≢ p).
          let one : one_where (eqb slot p) ≡ 0 = ap one_where (ne_eqb slot p ne) in
          let next : (claimed.slot p).inc ≡ (k.slot p).inc = ap (λ (x : Slot S). x.inc) (slot_else p (λ e. ne (sym e))) in
          omega (arith, was, sums, mine', more', one, next))
          (cases_eq slot p)
