-- What the rule says of a connection that was let go: while a seat may speak of it, the table's epoch is at most one more than that of its
-- note; and where a seat owns all reader places, each Dead connection that it doesn't have itself was let go, by it or by one that was joined into it.
use Rattle.std.specs.Prelude.{◌≡◌, ℕ, ◌+◌, ◌^◌, ◌<◌, ◌≤◌, None, List, [], length}
use mathlib.Core.Option.{some}
use lib.ListN.{get_elem?}
use Rattle.atomic_table.specs.Table.{State}
use Rattle.npf_types.specs.declared.key.Key.{Key}
use Rattle.npf_core.specs.declared.stage.Stage.TheVariants.{Dead}
use Rattle.npf_core.specs.History.{state_of}
use Rattle.npf_core.specs.Meaning.{Meaning}
use Rattle.npf_connections.specs.Pass.{all_places}
use Rattle.npf_cells_words.specs.declared.layout.Layout.{Layout}
use Rattle.npf_cells_words.specs.Layout.{epoch_word}
use Rattle.npf_cells_lives.specs.Deaths.{Rests, first_note, last_id}
use Rattle.npf_cells_lives.specs.Turns.{Running, turn_word, phase_word}
use Rattle.npf_cells_rule.specs.declared.view.CellView.{CellView}
use Rattle.npf_cells_rule.specs.Cells.{IsCells}
use Rattle.npf_cells_rule.specs.Views.{death_side}

abbrev pub RestsHoldBack : {S A R : Type 0} → Meaning S A R → Layout → Type 0
RestsHoldBack {S} {A} {R} m layout =
    (digest : Key → ℕ) (s : State (Running S) (CellView S A R)) (kept : IsCells m digest layout s) (j slot epoch : ℕ) (v : CellView S A R) → slot < layout.slots → get_elem? s.views j ≡ some v →
    first_note layout s.words slot ≡ 2 ^ 63 + epoch → Rests (death_side v) (last_id (state_of m kept.log) slot) → epoch_word s.words ≤ epoch + 1

-- the slot's first note has an epoch of the table, with which the seat, or one that was joined into it, let the connection go; and where the seat
-- has no turn the slot's is free, and its phase says that it is Dead
pub record IsLeftThere {S A R : Type 0} (layout : Layout) (words : List ℕ) (v : CellView S A R) (slot : ℕ) : Type 0 where
  pub epoch : ℕ
  pub note : first_note layout words slot ≡ 2 ^ 63 + epoch
  pub reached : epoch ≤ epoch_word words
  pub since : epoch ≤ v.pools.dated
  pub turn : v.turn ≡ None → turn_word layout words slot ≡ 0
  pub phase : v.turn ≡ None → phase_word layout words slot ≡ 2

-- a seat that has no dead connection of its own
pub record HasNoDeadOfItsOwn {S A R : Type 0} (v : CellView S A R) : Type 0 where
  pub kills : v.pools.kills ≡ []
  pub reclaims : v.pools.reclaims ≡ []
  pub cleared : v.pools.cleared ≡ []

abbrev pub SoleFindsLeft : {S A R : Type 0} → Meaning S A R → Layout → Type 0
SoleFindsLeft {S} {A} {R} m layout =
    (digest : Key → ℕ) (s : State (Running S) (CellView S A R)) (kept : IsCells m digest layout s) (j slot : ℕ) (v : CellView S A R) → slot < layout.slots → get_elem? s.views j ≡ some v →
    length v.seats.readers ≡ all_places → HasNoDeadOfItsOwn v → ((state_of m kept.log).slot slot).stage ≡ Dead → IsLeftThere layout s.words v slot
