-- The part of the rule on notes: the note of each way that a connection holds a key of names the place where the leaf stands.
use Rattle.std.specs.Prelude.{◌≡◌, ◌⊎◌, ℕ, ◌<◌, ◌==◌, Bool, ◌&&◌, not, Option, Some, None, List, Contains, filter, slice_index}
use mathlib.Core.Option.{some}
use lib.ListN.{get_elem?}
use Rattle.npf_types.specs.declared.key.Way.{Way}
use Rattle.npf_core.specs.declared.conn_id.ConnId.{ConnId}
use Rattle.npf_core.specs.declared.stage.Stage.TheVariants.{Dead}
use Rattle.npf_core.specs.Machine.{Machine, HoldsNone, HoldsSome}
use Rattle.npf_paths.specs.declared.cell.Cell.{Cell}
use Rattle.npf_paths.specs.declared.cell.Cell.TheVariants.{Leaf}
use Rattle.npf_paths.specs.declared.place.Place.{Place}
use Rattle.npf_paths.specs.Paths.{AreDigits, IsOnPath}
use Rattle.npf_cells_words.specs.declared.layout.Layout.{Layout}
use Rattle.npf_cells_words.specs.declared.layout.Pool.TheVariants.{Slots}
use Rattle.npf_cells_words.specs.Codes.{place_code}
use Rattle.npf_cells_words.specs.Layout.{note_field, field_at}
use Rattle.npf_cells_lives.specs.declared.pools.Note.{Note}
use Rattle.npf_cells_lives.specs.declared.pools.PoolSide.{PoolSide}
use Rattle.npf_cells_lives.specs.declared.turn.Ahead.{Ahead}
use Rattle.npf_cells_lives.specs.declared.turn.Said.{Said}
use Rattle.npf_cells_lives.specs.declared.turn.Turn.{Turn}
use Rattle.npf_cells_lives.specs.Conns.{IsBuiltIn}
use Rattle.npf_cells_lives.specs.Deaths.{has_epoch, last_id}
use Rattle.npf_cells_lives.specs.Turns.{stage_phase}

-- the word of a slot's note of a way
abbrev pub note_word : Layout → List ℕ → ℕ → Way → ℕ
note_word layout words slot way = slice_index words (field_at layout Slots slot (note_field way))

-- the pass has the slot's turn, and is ahead of this note
pub record IsAheadOf {S : Type 0} (turn : Option (Turn S)) (slot field : ℕ) : Type 0 where
  pub mine : Turn S
  pub has : turn ≡ Some mine
  pub there : mine.slot ≡ slot
  pub note : Ahead
  pub ahead : mine.ahead ≡ Some note
  pub field_is : note.field ≡ field

abbrev pub NobodyAhead : {S V : Type 0} → (V → Option (Turn S)) → List V → ℕ → ℕ → Type 0
NobodyAhead {S} {V} turn_of views slot field = (j : ℕ) (v : V) → get_elem? views j ≡ some v → ¬ IsAheadOf (turn_of v) slot field

-- a turn under which this note was stored, or whose leaf was moved since: what a note said before is forgotten
abbrev pub with_ahead : {S : Type 0} → Option Ahead → Option (Turn S) → Option (Turn S)
with_ahead ahead None = None
with_ahead ahead (Some turn) = Some (record turn { ahead = ahead; said = None })

-- a turn under which a note was loaded
abbrev pub with_said : {S : Type 0} → Option Said → Option (Turn S) → Option (Turn S)
with_said said None = None
with_said said (Some turn) = Some (record turn { said = said })

-- a note of which a pass is ahead: a key of its way is held, and it is what the pass stored, the number of a place
pub record FitsAhead {S : Type 0} (layout : Layout) (k : Machine S) (words : List ℕ) (slot : ℕ) (note : Ahead) : Type 0 where
  pub way : Way
  pub field_is : note.field ≡ note_field way
  pub id : ConnId
  pub id_there : id.slot ≡ slot
  pub held : HoldsSome k id way
  pub stands : note_word layout words slot way ≡ note.value
  pub place : Place
  pub names : note.value ≡ place_code place

-- a note stays as a pass loaded it under a slot's turn, where the slot's connection is one that the pass killed, or was Dead and the note has an
-- epoch
abbrev pub IsFirm : {S : Type 0} → List ConnId → Turn S → Said → Type 0
IsFirm kills turn said = IsBuiltIn kills turn.slot ⊎ ((turn.was.stage ≡ Dead) × (has_epoch said.value ≡ 1))

-- a note that a pass stored freely: of a connection that it is building, which holds no key of that way
pub record FitsNote {S : Type 0} (layout : Layout) (k : Machine S) (words : List ℕ) (builds : List ConnId) (note : Note) : Type 0 where
  pub id : ConnId
  pub built : Contains builds id
  pub there : id.slot ≡ note.slot
  pub way : Way
  pub field_is : note.field ≡ note_field way
  pub bare : HoldsNone k id way
  pub stands : note_word layout words note.slot way ≡ note.value

-- the note of this field of the slot, and the notes but that one, and but those of the slot
abbrev pub is_note_of : ℕ → ℕ → Note → Bool
is_note_of slot field note = (note.slot == slot) && (note.field == field)

abbrev pub notes_but : ℕ → ℕ → List Note → List Note
notes_but slot field = filter (λ note. not (is_note_of slot field note))

abbrev pub notes_elsewhere : ℕ → List Note → List Note
notes_elsewhere slot = filter (λ note. not (note.slot == slot))

-- over views of which each has a turn or none, and a side: where a leaf stands on a path, the note of its way names the place, unless a
-- pass that has its slot's turn is ahead of it; the note of a way of which a connection holds no key is 0 where it is Live, or where a pass
-- killed it that didn't give that key up; and what passes are ahead of, what they were told under turns, and what they stored, is so
pub record Notes {S V : Type 0} (turn_of : V → Option (Turn S)) (side_of : V → PoolSide) (layout : Layout) (cell : Place → Cell) (k : Machine S) (words : List ℕ) (views : List V) : Type 0 where
  pub named : (digits : ℕ → ℕ) (level : ℕ) (p : Place) (slot : ℕ) (way : Way) → AreDigits digits → IsOnPath digits cell level p → cell p ≡ Leaf slot way → NobodyAhead turn_of views slot (note_field way) →
      note_word layout words slot way ≡ place_code p
  pub bare : (slot : ℕ) (way : Way) → slot < layout.slots → stage_phase (k.slot slot).stage ≡ 1 → HoldsNone k (last_id k slot) way → note_word layout words slot way ≡ 0
  pub given : (j : ℕ) (v : V) (id : ConnId) (way : Way) → get_elem? views j ≡ some v → Contains (side_of v).kills id → ¬ Contains (side_of v).gave_up (record { id = id; way = way }) → HoldsNone k id way →
      note_word layout words id.slot way ≡ 0
  pub said : (j : ℕ) (v : V) (turn : Turn S) (said : Said) (way : Way) → get_elem? views j ≡ some v → turn_of v ≡ Some turn → turn.said ≡ Some said → IsFirm (side_of v).kills turn said → said.field ≡ note_field way →
      note_word layout words turn.slot way ≡ said.value
  pub ahead : (j : ℕ) (v : V) (turn : Turn S) (note : Ahead) → get_elem? views j ≡ some v → turn_of v ≡ Some turn → turn.ahead ≡ Some note → FitsAhead layout k words turn.slot note
  pub each : (j : ℕ) (v : V) (note : Note) → get_elem? views j ≡ some v → Contains (side_of v).notes note → FitsNote layout k words (side_of v).builds note
