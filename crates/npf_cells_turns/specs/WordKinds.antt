-- What a load of a node's state or parent, or of a connection's phase or note, tells.
use Rattle.std.specs.Prelude.{◌≡◌, ◌⊎◌, ℕ, ◌≤◌, ◌<◌, ◌↔◌, Option, Some, None, List, Contains}
use mathlib.Core.Option.{some}
use lib.ListN.{get_elem?}
use Rattle.atomic_table.specs.Table.{Me, Step, State}
use Rattle.npf_types.specs.declared.key.Key.{Key}
use Rattle.npf_types.specs.declared.key.Way.{Way}
use Rattle.npf_core.specs.History.{state_of}
use Rattle.npf_core.specs.Machine.{Holds, HoldsNone}
use Rattle.npf_core.specs.Meaning.{Meaning}
use Rattle.npf_cells_words.specs.declared.layout.Layout.{Layout}
use Rattle.npf_cells_words.specs.declared.layout.Pool.{Pool}
use Rattle.npf_cells_words.specs.declared.layout.Pool.TheVariants.{Slots, Nodes}
use Rattle.npf_cells_words.specs.Layout.{state_field, phase_field, notes_field, note_field, field_count, field_at}
use Rattle.npf_cells_lives.specs.declared.pools.Note.{Note}
use Rattle.npf_cells_lives.specs.declared.pools.StoredWord.{StoredWord}
use Rattle.npf_cells_lives.specs.declared.turn.Turn.{Turn}
use Rattle.npf_cells_lives.specs.Deaths.{last_id}
use Rattle.npf_cells_lives.specs.Stored.{stored_value}
use Rattle.npf_cells_lives.specs.Turns.{Running, stage_phase}
use Rattle.npf_cells_rule.specs.Cells.{IsCells}
use Rattle.npf_cells_rule.specs.NoteLaw.{NamesEnd}
use Rattle.npf_cells_rule.specs.declared.view.CellView.{CellView}
use Rattle.npf_cells_rule.specs.Stood.{StoodSo}

-- the field of a node's state or parent, or of a connection's phase or of one of its notes
abbrev pub IsLoadField : Pool → ℕ → Type 0
IsLoadField Slots field = (field ≡ phase_field) ⊎ ((notes_field ≤ field) × (field < field_count Slots))
IsLoadField Nodes field = (state_field ≤ field) × (field < field_count Nodes)

-- the word is what the pass stored in it, where it stored anything
abbrev pub ShowsStored : Layout → List StoredWord → Pool → ℕ → ℕ → ℕ → Type 0
ShowsStored layout stored pool place field found = (n : ℕ) → stored_value layout stored (field_at layout pool place field) ≡ Some n → found ≡ n

-- or what the pass stored as a note
abbrev pub ShowsNote : List Note → Pool → ℕ → ℕ → ℕ → Type 0
ShowsNote notes Slots slot field found = (value : ℕ) → Contains notes (record { slot = slot; field = field; value = value }) → found ≡ value
ShowsNote notes Nodes node field found = Unit {0}

-- and the phase that the pass knows, where it has the slot's turn
abbrev pub ShowsPhase : {S : Type 0} → Option (Turn S) → Pool → ℕ → ℕ → ℕ → Type 0
ShowsPhase turn Slots slot field found = (t : Turn _) → turn ≡ Some t → t.slot ≡ slot → field ≡ phase_field → found ≡ t.phase
ShowsPhase turn Nodes node field found = Unit {0}

-- the note of a way, in a state of the table in which the seat knew and had this: it is 0 exactly where the slot's connection holds no key of
-- that way, and else the number of the place where the key's path ends
pub record TellsNote {S A R : Type 0} (m : Meaning S A R) (digest : Key → ℕ) (layout : Layout) (view : CellView S A R) (slot : ℕ) (way : Way) (found : ℕ) : Type 0 where
  pub state : State (Running S) (CellView S A R)
  pub rule : IsCells m digest layout state
  pub seated : get_elem? state.views view.seats.number ≡ some view
  pub zero : (found ≡ 0) ↔ HoldsNone (state_of m rule.log) (last_id (state_of m rule.log) slot) way
  pub names : (key : Key) → Holds (state_of m rule.log) (last_id (state_of m rule.log) slot) way key → NamesEnd digest layout state.words key found

-- it tells that under the turn of a slot whose connection was Live, where the pass is ahead of none of its notes
abbrev pub ShowsByTurn : {S A R : Type 0} → Meaning S A R → (Key → ℕ) → Layout → CellView S A R → Pool → ℕ → ℕ → ℕ → Type 0
ShowsByTurn {S} m digest layout v Slots slot field found = (turn : Turn S) (way : Way) → v.turn ≡ Some turn → turn.slot ≡ slot → turn.ahead ≡ None → stage_phase turn.was.stage ≡ 1 → field ≡ note_field way →
    TellsNote m digest layout v slot way found
ShowsByTurn m digest layout v Nodes node field found = Unit {0}

-- the kind, as what it tells
pub record LoadsWord {S A R : Type 0} (m : Meaning S A R) (digest : Key → ℕ) (layout : Layout) (pool : Pool) (place field : ℕ) (step : Step (Running S)) (me : Me (Running S) (CellView S A R)) (found : ℕ) (next : Me (Running S) (CellView S A R)) : Type 0 where
  pub is : next ≡ me
  pub stored : ShowsStored layout me.0.pools.stored pool place field found
  pub noted : ShowsNote me.0.pools.notes pool place field found
  pub phase : ShowsPhase me.0.turn pool place field found
  pub by_turn : ShowsByTurn m digest layout me.0 pool place field found
  pub stood : StoodSo m digest layout me.0 (field_at layout pool place field) found
