-- What a step that sees all of the history changes in the pass's own view, and what it tells.
use Rattle.std.specs.Prelude.{◌≡◌, ◌⊎◌, ℕ, Option, Some, None, List, []}
use Rattle.atomic_table.specs.Table.{Me, Step}
use Rattle.npf_core.specs.declared.entry.Entry.{Entry}
use Rattle.npf_core.specs.History.{state_of}
use Rattle.npf_core.specs.Machine.{Machine, IsLive}
use Rattle.npf_core.specs.Meaning.{Meaning}
use Rattle.npf_cells_lives.specs.declared.turn.Turn.{Turn}
use Rattle.npf_cells_lives.specs.Turns.{Running, stage_phase}
use Rattle.npf_connections.specs.Adding.{Adds}
use Rattle.npf_connections.specs.Pass.{IsPass}
use Rattle.npf_cells_rule.specs.declared.view.CellView.{CellView}
use Rattle.npf_cells_rule.specs.Passes.{cell_pass}

-- the pass after it: it has seen this history
abbrev pub seeing : {S A R : Type 0} → CellView S A R → List (Entry S A R) → CellView S A R
seeing v history = record v { seats = record v.seats { history = history } }

-- a slot whose turn the pass has is still at what it was when the pass got the turn, or its connection was neither Live, nor Dead and nobody's
-- or its killer's, and isn't Live
abbrev pub StaysByTurn : {S : Type 0} → Machine S → Option (Turn S) → Type 0
StaysByTurn k None = Unit {0}
StaysByTurn k (Some turn) = (k.slot turn.slot ≡ turn.was) ⊎ ((stage_phase turn.was.stage ≡ 0) × ¬ IsLive (k.slot turn.slot).stage)

-- the pass has seen all of the history, to which it added nothing
pub record HasSeen {S A R : Type 0} (m : Meaning S A R) (old now : Me (Running S) (CellView S A R)) : Type 0 where
  pub adds : Adds (cell_pass old.0) now.0.seats.history []
  pub legal : IsPass m (cell_pass old.0) → IsPass m (cell_pass now.0)
  pub turn : StaysByTurn (state_of m now.0.seats.history) old.0.turn
  pub is : now ≡ (seeing old.0 now.0.seats.history, old.1)

-- the kind, as what it tells
pub record Sees {S A R : Type 0} (m : Meaning S A R) (step : Step (Running S)) (me : Me (Running S) (CellView S A R)) (found : ℕ) (next : Me (Running S) (CellView S A R)) : Type 0 where
  pub seen : HasSeen m me next
