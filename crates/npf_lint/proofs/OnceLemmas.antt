-- Places of different rules, in order, rise.
use Rattle.std.proofs.Common.{◌≡◌, ℕ, ◌+◌, ◌<◌, ◌++◌, ◌∷◌, [], List, false, sym, subst, arith}
use Rattle.std.specs.Prelude.{nat_eq}
use Rattle.std.specs.Cmp.{nat_eq_equiv}
use Rattle.std.specs.List.{IsDistinct, list_any}
use Rattle.std.specs.List.Sorted.{IsNonDecreasing, IsPermutation, IsStrictlyIncreasing}
use Rattle.std.proofs.lemmas.Bool.{ne_eqb}
use Rattle.std.proofs.lemmas.List.Elements.{All-push}
use Rattle.std.proofs.lemmas.List.Folds.{list_any_none}
use Rattle.std.proofs.lemmas.Map.Keys.{IsDistinct-IsPermutation, IsDistinct-push, IsStrictlyIncreasing-from_distinct}
use Rattle.npf_model.specs.declared.model.Model.{Model}
use Rattle.npf_precedence.specs.declared.entry.RuleEntry.{RuleEntry}
use Rattle.npf_judge.specs.Place.{HasRulePlaces, IsRulePlace}
use Rattle.npf_lint.specs.Order.{AreNamedOnce}

none_differ : IsDistinct nat_eq []
unfolding IsDistinct
none_differ = tt

pub none_named : (order : List RuleEntry) (before : ℕ) → AreNamedOnce order before []
none_named order before = record { named = λ k d low. absurd (omega arith); once = none_differ }

module _ (order : List RuleEntry) (before : ℕ) (others : List ℕ) (are : AreNamedOnce order before others) where
  pub named_same : AreNamedOnce order (before + 1) others
  named_same = record {
    named = λ k d low. let there = are.named k d low in (there.0, omega (arith, there.1), there.2);
    once = are.once;
  }

  pub named_more : (model : Model) (place : ℕ) → HasRulePlaces model order → IsRulePlace order before place → AreNamedOnce order (before + 1) (others ++ place ∷ [])
  named_more model place places here = record {
    named = All-push (λ other. (k : ℕ) × (k < before + 1) × IsRulePlace order k other) others place named_same.named (before, omega arith, here);
    once = IsDistinct-push nat_eq_equiv others place are.once (list_any_none (nat_eq place) others (λ k d low.
        let there = are.named k d low in
        ne_eqb place _ (λ same.
        let equal : before ≡ there.0 = places.once before there.0 _ (subst (IsRulePlace order before) same here) there.2 in
        absurd (omega (arith, equal, there.1)))));
  }

  pub named_rise : (sorted : List ℕ) → IsPermutation others sorted → IsNonDecreasing sorted → IsStrictlyIncreasing sorted
  named_rise sorted moved rising =
      IsStrictlyIncreasing-from_distinct sorted rising (IsDistinct-IsPermutation nat_eq (λ x y. nat_eq_equiv.symm x y) others sorted moved are.once)
