-- The first of what is gathered.
use Rattle.std.proofs.Common.{◌≡◌, ◌+◌, ℕ, suc, Bool, true, false, Some, Ok, Err, List, [], ◌∷◌, ◌++◌, drop, slice_get, flat_map, refl, sym, ap, ◌∙◌, arith}
use Rattle.std.proofs.lemmas.Option.{same_Some, slice_get_within}
use Rattle.npf_model.specs.Verdict.{first_where}
use Rattle.npf_ruleset.proofs.PairLemmas.{drop_here}
use Rattle.npf_config_changes.specs.{declared.fault.ChangeFault.TheVariants.UnknownRuleset, Changes.found_ruleset, Rulesets.Ruleset}

none_there : (all more : List Ruleset) → Err UnknownRuleset ≡ found_ruleset all → found_ruleset (all ++ more) ≡ found_ruleset more
none_there [] more none = refl
none_there (dynamic ∷ all) more none = cc

one_there : (all more : List Ruleset) (dynamic : Ruleset) → Ok dynamic ≡ found_ruleset all → Ok dynamic ≡ found_ruleset (all ++ more)
one_there [] more dynamic found = cc
one_there (first ∷ all) more dynamic found = found

module _ {X : Type 0} (xs : List X) (n : ℕ) (x : X) (here : slice_get xs n ≡ Some x) where
  pub left_here : drop n xs ≡ x ∷ drop (n + 1) xs
  left_here =
      let next : suc n ≡ n + 1 = omega arith in
      let found = drop_here xs n (slice_get_within xs n x here) in
      found.1 ∙ ap (λ (y : X). y ∷ drop (suc n) xs) (same_Some found.0 x (sym found.2 ∙ here)) ∙ ap (λ k. x ∷ drop k xs) next

  -- it passes the test, or the others decide
  module _ (test : X → Bool) where
    pub first_here : test x ≡ true → Some n ≡ first_where test n (drop n xs)
    first_here passes = rw left_here (rw passes refl)

    pub first_behind : test x ≡ false → first_where test n (drop n xs) ≡ first_where test (n + 1) (drop (n + 1) xs)
    first_behind fails = rw left_here (rw fails refl)

module _ {X : Type 0} (gives : X → List Ruleset) (xs : List X) (n : ℕ) (x : X) (here : slice_get xs n ≡ Some x) where
  pub found_behind : Err UnknownRuleset ≡ found_ruleset (gives x) → found_ruleset (flat_map gives (drop n xs)) ≡ found_ruleset (flat_map gives (drop (n + 1) xs))
  found_behind none = ap (λ rest. found_ruleset (flat_map gives rest)) (left_here xs n x here) ∙ none_there (gives x) (flat_map gives (drop (n + 1) xs)) none

  pub found_here : (dynamic : Ruleset) → Ok dynamic ≡ found_ruleset (gives x) → Ok dynamic ≡ found_ruleset (flat_map gives (drop n xs))
  found_here dynamic found = one_there (gives x) (flat_map gives (drop (n + 1) xs)) dynamic found ∙ sym (ap (λ rest. found_ruleset (flat_map gives rest)) (left_here xs n x here))
