-- What a try to free a slot leaves: its connection was Dead, let go two epochs before, and is freed; or why it wasn't.
use Rattle.std.specs.Prelude.{◌≡◌, ◌≢◌, ℕ, ◌+◌, ◌-◌, ◌^◌, ◌≤◌, false, Option, Some, None, [], ◌∷◌}
use Rattle.atomic_table.specs.Table.{Me}
use Rattle.npf_types.specs.declared.key.Key.{Key}
use Rattle.npf_core.specs.declared.conn_id.ConnId.{ConnId}
use Rattle.npf_core.specs.declared.slot.Slot.{Slot}
use Rattle.npf_core.specs.Meaning.{Meaning}
use Rattle.npf_connections.specs.Adding.{AddsOwn}
use Rattle.npf_connections.specs.Entries.{free_entries}
use Rattle.npf_connections.specs.Pass.{IsPass}
use Rattle.npf_cells_words.specs.declared.layout.Layout.{Layout}
use Rattle.npf_cells_words.specs.declared.layout.Pool.TheVariants.{Slots}
use Rattle.npf_cells_words.specs.Layout.{phase_field, notes_field, field_at}
use Rattle.npf_cells_lives.specs.Turns.{Running}
use Rattle.npf_cells_rule.specs.declared.view.CellView.{CellView}
use Rattle.npf_cells_rule.specs.Passes.{cell_pass}
use Rattle.npf_cells_rule.specs.Stood.{StoodSo}
use Rattle.npf_cells_turns.specs.TurnKinds.{GotTurn, turn_at}

-- a first note says that the connection was let go two epochs before this one, or earlier
pub record IsLongLeft (note epoch : ℕ) : Type 0 where
  pub left : 2 ^ 63 ≤ note
  pub long : note + 2 ≤ 2 ^ 63 + epoch

-- the pass with the turn of a slot that was at this
abbrev pub turning : {S A R : Type 0} → CellView S A R → ℕ → Slot S → CellView S A R
turning v slot was = record v { turn = Some (turn_at slot was) }

-- why a slot wasn't freed: another pass had its turn, its phase wasn't that of a Dead connection, its note wasn't long enough ago, or its
-- connection was the last that there can be
pub data WhyLeft {S A R : Type 0} (m : Meaning S A R) (digest : Key → ℕ) (layout : Layout) (v : CellView S A R) (slot epoch : ℕ) : Type 0 where
  was_taken : GotTurn m digest layout v slot false → WhyLeft m digest layout v slot epoch
  was_alive : (was : Slot S) (phase : ℕ) → StoodSo m digest layout (turning v slot was) (field_at layout Slots slot phase_field) phase → phase ≢ 2 → WhyLeft m digest layout v slot epoch
  was_early : (was : Slot S) (note : ℕ) → StoodSo m digest layout (turning v slot was) (field_at layout Slots slot notes_field) note → ¬ IsLongLeft note epoch → WhyLeft m digest layout v slot epoch
  was_last : (was : Slot S) (note : ℕ) → StoodSo m digest layout (turning v slot was) (field_at layout Slots slot notes_field) note → was.inc ≡ 2 ^ 64 - 1 → WhyLeft m digest layout v slot epoch

-- the slot's connection was freed: this ends the history
pub record HasFreedSlot {S A R : Type 0} (m : Meaning S A R) (slot : ℕ) (id : ConnId) (old now : Me (Running S) (CellView S A R)) : Type 0 where
  pub there : id.slot ≡ slot
  pub adds : AddsOwn (cell_pass old.0) now.0.seats.history (free_entries (cell_pass old.0) (id ∷ []))
  pub legal : IsPass m (cell_pass old.0) → IsPass m (cell_pass now.0)
  pub is : now ≡ (record old.0 { seats = record old.0.seats { history = now.0.seats.history }; pools = record old.0.pools { found = now.0.pools.found }; turn = None }, [])

-- or it was left
pub record LeavesSlot {S A R : Type 0} (m : Meaning S A R) (digest : Key → ℕ) (layout : Layout) (slot epoch : ℕ) (old now : Me (Running S) (CellView S A R)) : Type 0 where
  pub why : WhyLeft m digest layout old.0 slot epoch
  pub is : now ≡ (record old.0 { turn = None }, [])

abbrev pub HasReclaimed : {S A R : Type 0} → Meaning S A R → (Key → ℕ) → Layout → ℕ → ℕ → Option ConnId → Me (Running S) (CellView S A R) → Me (Running S) (CellView S A R) → Type 0
HasReclaimed m digest layout slot epoch (Some id) old now = HasFreedSlot m slot id old now
HasReclaimed m digest layout slot epoch None old now = LeavesSlot m digest layout slot epoch old now
