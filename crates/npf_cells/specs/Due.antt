-- What a look at the flow that a slot holds tells.
use Rattle.std.specs.Prelude.{◌≡◌, ℕ, Bool, false, Some, None, [], ◌∷◌}
use Rattle.atomic_table.specs.Table.{Me}
use Rattle.npf_core.specs.Meaning.{Meaning}
use Rattle.npf_cells_lives.specs.Turns.{Running}
use Rattle.npf_cells_rule.specs.declared.view.CellView.{CellView}

-- whether a flow is due at the time by the law; none isn't
abbrev pub is_due_at : {S A R : Type 0} → Meaning S A R → ℕ → Running S → Bool
is_due_at m time None = false
is_due_at m time (Some held) = m.is_due held.0 time

-- the pass is told whether the slot's flow is due, and carries it on as it was
pub record FindsDue {S A R : Type 0} (m : Meaning S A R) (slot time : ℕ) (answer : Bool) (old now : Me (Running S) (CellView S A R)) : Type 0 where
  pub held : Running S
  pub was : old.1 ≡ (slot, held) ∷ []
  pub is : now ≡ (old.0, (slot, held) ∷ [])
  pub answers : answer ≡ is_due_at m time held
