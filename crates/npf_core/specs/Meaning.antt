use Rattle.std.specs.Prelude.{ℕ, Bool}
use Rattle.npf_types.specs.declared.key.Way.{Way}

-- what a law says: the flow after a step, what the step answers, and whether a flow is due at a time
pub record Meaning (S A R : Type 0) : Type 0 where
  pub next : S → Way → A → S
  pub answer : S → Way → A → R
  pub is_due : S → ℕ → Bool
