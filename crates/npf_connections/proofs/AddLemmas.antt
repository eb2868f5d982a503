-- What calls add to a pass's history.
use Rattle.std.proofs.Common.{◌≡◌, ◌⊎◌, ℕ, Bool, true, false, ◌==◌, List, [], ◌∷◌, ◌++◌, cond, refl, ap, sym, ◌∙◌, inl, inr, append_assoc, rules}
use Rattle.std.{proofs.lemmas.{List.{append_cancel_right, Elements.Contains-append_right}, Bool.Decides.Decides-eqb}, specs.List.Contains}
use Rattle.npf_core.{specs.{declared.entry.Entry.Entry, History.by, Meaning.Meaning}, proofs.HistoryLemmas.by-append}
use Rattle.npf_connections.specs.{AddLaw.{AddsMore, AddsAlone}, Adding.AddsOwn, Pass.{Pass, IsOwn}}

-- what two calls add
pub adds_more : {S A R : Type 0} → AddsMore S A R
adds_more old mid new first second number joined p q = record {
  rest = p.rest ++ q.rest;
  goes_on = q.goes_on ∙ (ap (λ h. h ++ q.rest) p.goes_on ∙ append_assoc old.history p.rest q.rest);
  own = by-append old.number p.rest q.rest ∙ (λ i. p.own i ++ (rw number at q.own) i);
  listed = λ n c. by-append n p.rest q.rest ∙ (λ i. p.listed n c i ++ q.listed n (rw joined c) i);
}

module _ {S A R : Type 0} (number : ℕ) (joined : List ℕ) where
  -- where each entry is of the number or of a listed one, and none is of a listed one, all are of the number
  own_alone : (rest : List (Entry S A R)) →
      ((entry : Entry S A R) → Contains rest entry → (entry.seat ≡ number) ⊎ Contains joined entry.seat) →
      ((n : ℕ) → Contains joined n → by n rest ≡ []) → by number rest ≡ rest
  own_alone [] own listed = refl
  own_alone (x ∷ xs) own listed =
      at_first (own_alone xs (λ entry c. own entry (Contains-append_right (x ∷ []) xs entry c)) later) (own x (search rules))
    where
      later : (n : ℕ) → Contains joined n → by n xs ≡ []
      later n c = at_test (x.seat == n) (listed n c)
        where
          at_test : (keep : Bool) → cond keep (x ∷ by n xs) (by n xs) ≡ [] → by n xs ≡ []
          at_test true e = absurd cc
          at_test false e = e

      at_first : by number xs ≡ xs → (x.seat ≡ number) ⊎ Contains joined x.seat → by number (x ∷ xs) ≡ x ∷ xs
      at_first rest (inl e) =
          let here : (x.seat == number) ≡ true = (Decides-eqb x.seat number).1 e in
          rw here (ap (λ ys. x ∷ ys) rest)
      at_first rest (inr c) =
          let here : (x.seat == x.seat) ≡ true = (Decides-eqb x.seat x.seat).1 refl in
          let none : x ∷ by x.seat xs ≡ [] = rw here at (listed x.seat c) in
          absurd cc

-- a pass that owns all reader places adds its own entries alone
pub adds_alone : {S A R : Type 0} (m : Meaning S A R) → AddsAlone m
adds_alone m old now mine pass all number joined adds =
    let own : (entry : _) → Contains adds.rest entry → IsOwn old entry.seat =
    λ entry c. rw (number, joined) at (pass.alone all entry (rw adds.goes_on (Contains-append_right old.history adds.rest entry c))) in
    adds.goes_on ∙ ap (λ ys. old.history ++ ys) (sym (own_alone old.number old.joined adds.rest own adds.listed) ∙ adds.own)

tails : {E : Type 0} {a b : E} {u v : List E} → a ∷ u ≡ b ∷ v → u ≡ v
tails is = cc

-- what goes on from a list and ends with an item, if it goes on at all, is a part that ends with it
ends_in : {E : Type 0} (xs rest before : List E) (e : E) → ¬ (rest ≡ []) → xs ++ rest ≡ before ++ e ∷ [] → (init : List E) × (rest ≡ init ++ e ∷ [])
ends_in [] rest before e some is = (before, is)
ends_in (x ∷ xs) rest [] e some is = absurd (some (none xs rest (tails is)))
  where
    none : {E : Type 0} (xs rest : List E) → xs ++ rest ≡ [] → rest ≡ []
    none [] rest is = is
    none (x ∷ xs) rest is = absurd cc
ends_in (x ∷ xs) rest (b ∷ before) e some is = ends_in xs rest before e some (tails is)

-- a call added one entry of its pass: others' entries, and then this one
pub record AddsLast {S A R : Type 0} (old : Pass (Entry S A R)) (new : List (Entry S A R)) (entry : Entry S A R) : Type 0 where
  pub init : List (Entry S A R)
  pub goes_on : new ≡ old.history ++ (init ++ entry ∷ [])
  pub others : by old.number init ≡ []

pub adds_last : {S A R : Type 0} (old : Pass (Entry S A R)) (new : List (Entry S A R)) (entry : Entry S A R) →
    AddsOwn old new (entry ∷ []) → entry.seat ≡ old.number → AddsLast old new entry
adds_last old new entry own seat =
    let adds = own.adds in
    let end = own.ends [] entry refl in
    let some : ¬ (adds.rest ≡ []) = λ none. absurd (let e = sym adds.own ∙ ap (λ es. by old.number es) none in cc) in
    let split = ends_in old.history adds.rest end.0 entry some (sym adds.goes_on ∙ end.1) in
    let mine : (entry.seat == old.number) ≡ true = (Decides-eqb entry.seat old.number).1 seat in
    let parts : by old.number split.0 ++ by old.number (entry ∷ []) ≡ entry ∷ [] =
    sym (by-append old.number split.0 (entry ∷ [])) ∙ (ap (λ es. by old.number es) (sym split.1) ∙ adds.own) in
    record {
      init = split.0;
      goes_on = adds.goes_on ∙ ap (λ es. old.history ++ es) split.1;
      others = append_cancel_right (by old.number split.0) [] (entry ∷ []) (rw mine at parts);
    }
