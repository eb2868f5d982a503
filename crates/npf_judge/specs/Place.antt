-- The places that the rules of an order have in the order of inspection.
use Rattle.std.specs.Prelude.{◌≡◌, ◌<◌, ℕ, Some, List, length, slice_get}
use Rattle.npf_model.specs.declared.model.Model.{Model}
use Rattle.npf_model.specs.Verdict.{rule_at}
use Rattle.npf_precedence.specs.declared.entry.RuleEntry.{RuleEntry}
use Rattle.npf_judge.specs.Order.{entry_place}

-- the place in the order of inspection of the rule at this place of the order
abbrev pub IsRulePlace : List RuleEntry → ℕ → ℕ → Type 0
IsRulePlace order at place = entry_place (slice_get order at) ≡ Some place

-- each rule has a place below their number, one of its own, and is the rule that the model has there
pub record HasRulePlaces (model : Model) (order : List RuleEntry) : Type 0 where
  pub below : (at place : ℕ) → IsRulePlace order at place → place < length order
  pub once : (one other place : ℕ) → IsRulePlace order one place → IsRulePlace order other place → one ≡ other
  pub rules : (at : ℕ) (entry : RuleEntry) → slice_get order at ≡ Some entry → rule_at model entry.place ≡ Some entry.rule.now
