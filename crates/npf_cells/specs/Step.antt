-- What a step makes of the flow that a slot holds, and what it answers.
use Rattle.std.specs.Prelude.{◌≡◌, ℕ, ◌+◌, ◌-◌, ◌^◌, min, Some, None, [], ◌∷◌}
use Rattle.atomic_table.specs.Table.{Me}
use Rattle.npf_types.specs.declared.key.Way.{Way}
use Rattle.npf_core.specs.declared.stepped.Stepped.{Stepped}
use Rattle.npf_core.specs.declared.stepped.Stepped.TheVariants as Steppeds
use Rattle.npf_core.specs.Meaning.{Meaning}
use Rattle.npf_cells_lives.specs.Turns.{Running}
use Rattle.npf_cells_rule.specs.declared.view.CellView.{CellView}

-- a flow goes on by the law, and has one step more
abbrev pub gone_on : {S A R : Type 0} → Meaning S A R → Way → A → Running S → Running S
gone_on m way arg None = None
gone_on m way arg (Some held) = Some (m.next held.0 way arg, min (held.1 + 1) (2 ^ 64 - 1))

-- the law's answer, and how many steps there were before
abbrev pub going_answer : {S A R : Type 0} → Meaning S A R → Way → A → Running S → Stepped R
going_answer m way arg None = Steppeds.NotLive
going_answer m way arg (Some held) = Steppeds.Done (m.answer held.0 way arg) held.1

-- the pass carries the slot's flow one step further, and nothing else of it changes
pub record StepsFlow {S A R : Type 0} (m : Meaning S A R) (slot : ℕ) (way : Way) (arg : A) (answer : Stepped R) (old now : Me (Running S) (CellView S A R)) : Type 0 where
  pub held : Running S
  pub was : old.1 ≡ (slot, held) ∷ []
  pub is : now ≡ (old.0, (slot, gone_on m way arg held) ∷ [])
  pub answers : answer ≡ going_answer m way arg held
