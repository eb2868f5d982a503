-- The part of the rule on turns: who has the turn of a slot, and what the slot's phase and its value say.
use Rattle.std.specs.Prelude.{◌≡◌, ◌⊎◌, ℕ, ◌≤◌, ◌<◌, ◌==◌, Option, Some, None, List, length, slice_index, sum_by, if◌then◌else◌}
use mathlib.Core.Option.{Option as Optional, some}
use lib.ListN.{get_elem?}
use Rattle.npf_core.specs.declared.slot.Slot.{Slot}
use Rattle.npf_core.specs.declared.stage.Stage.{Stage}
use Rattle.npf_core.specs.declared.stage.Stage.TheVariants.{Vacant, Building, Live, Dead}
use Rattle.npf_core.specs.Machine.{Machine}
use Rattle.npf_cells_words.specs.declared.layout.Layout.{Layout}
use Rattle.npf_cells_words.specs.declared.layout.Pool.TheVariants.{Slots}
use Rattle.npf_cells_words.specs.Layout.{turn_field, phase_field, field_at}
use Rattle.npf_cells_lives.specs.declared.turn.Turn.{Turn}

-- what a slot of the table holds: the flow and the count of steps of a Live connection
abbrev pub Running : Type 0 → Type 0
Running S = Option (S × ℕ)

abbrev pub running : {S : Type 0} → Stage S → Running S
running Vacant = None
running (Building seat) = None
running (Live flow steps) = Some (flow, steps)
running Dead = None

-- the phase of a slot's connection: 1 where it is Live, 2 where it is Dead
abbrev pub stage_phase : {S : Type 0} → Stage S → ℕ
stage_phase Vacant = 0
stage_phase (Building seat) = 0
stage_phase (Live flow steps) = 1
stage_phase Dead = 2

-- the slots of the table: each is at home with its value, or out with a pass
abbrev pub Homes : Type 0 → Type 0
Homes S = List (Optional (Running S))

-- the field of a turn, or of a phase
abbrev pub IsTurnField : ℕ → Type 0
IsTurnField field = (field ≡ turn_field) ⊎ (field ≡ phase_field)

-- the words of a slot's turn and of its phase
abbrev pub turn_word : Layout → List ℕ → ℕ → ℕ
turn_word layout words slot = slice_index words (field_at layout Slots slot turn_field)

abbrev pub phase_word : Layout → List ℕ → ℕ → ℕ
phase_word layout words slot = slice_index words (field_at layout Slots slot phase_field)

-- 1 where the pass has the slot's turn, and how many passes have it
abbrev pub has_turn : {S : Type 0} → ℕ → Option (Turn S) → ℕ
has_turn slot None = 0
has_turn slot (Some turn) = if turn.slot == slot then 1 else 0

abbrev pub turn_holders : {S V : Type 0} → (V → Option (Turn S)) → List V → ℕ → ℕ
turn_holders turn_of views slot = sum_by (λ v. has_turn slot (turn_of v)) views

-- a slot is still at what it was, or its connection was neither Live nor Dead, and isn't
abbrev pub StaysAt : {S : Type 0} → Slot S → Slot S → Type 0
StaysAt was now = (now ≡ was) ⊎ ((stage_phase was.stage ≡ 0) × (stage_phase now.stage ≡ 0))

-- what the part says of a turn that a pass has: the phase's word is as the pass knows it, and the slot is still at what it was
pub record FitsTurn {S : Type 0} (layout : Layout) (k : Machine S) (words : List ℕ) (turn : Turn S) : Type 0 where
  pub exists : turn.slot < layout.slots
  pub phase : phase_word layout words turn.slot ≡ turn.phase
  pub stays : StaysAt turn.was (k.slot turn.slot)

-- a slot whose turn nobody has holds its connection's flow and count, and its phase
pub record IsAtHome {S : Type 0} (layout : Layout) (k : Machine S) (words : List ℕ) (homes : Homes S) (slot : ℕ) : Type 0 where
  pub there : get_elem? homes slot ≡ some (some (running (k.slot slot).stage))
  pub phase : phase_word layout words slot ≡ stage_phase (k.slot slot).stage

-- over views of which each has a turn or none: the word of a turn is 1 where a pass has it, which is one alone, and 0 where none has
pub record Turns {S V : Type 0} (turn_of : V → Option (Turn S)) (layout : Layout) (k : Machine S) (words : List ℕ) (homes : Homes S) (views : List V) : Type 0 where
  pub reach : length homes ≡ layout.slots
  pub says : (slot : ℕ) → slot < layout.slots → turn_word layout words slot ≡ turn_holders turn_of views slot
  pub alone : (slot : ℕ) → slot < layout.slots → turn_holders turn_of views slot ≤ 1
  pub home : (slot : ℕ) → slot < layout.slots → turn_holders turn_of views slot ≡ 0 → IsAtHome layout k words homes slot
  pub each : (j : ℕ) (v : V) (turn : Turn S) → get_elem? views j ≡ some v → turn_of v ≡ Some turn → FitsTurn layout k words turn
