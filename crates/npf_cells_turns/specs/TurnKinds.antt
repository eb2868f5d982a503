-- What a try to get a slot's turn changes in the pass's own view, and what it tells.
use Rattle.std.specs.Prelude.{◌≡◌, ◌≢◌, ℕ, ◌↔◌, Bool, true, Some, None, [], ◌∷◌}
use Rattle.atomic_table.specs.Table.{Me, Step}
use Rattle.npf_types.specs.declared.key.Key.{Key}
use Rattle.npf_core.specs.declared.slot.Slot.{Slot}
use Rattle.npf_core.specs.Meaning.{Meaning}
use Rattle.npf_cells_words.specs.declared.layout.Layout.{Layout}
use Rattle.npf_cells_words.specs.declared.layout.Pool.TheVariants.{Slots}
use Rattle.npf_cells_words.specs.Layout.{turn_field, field_at}
use Rattle.npf_cells_lives.specs.declared.turn.Turn.{Turn}
use Rattle.npf_cells_lives.specs.Turns.{Running, running, stage_phase}
use Rattle.npf_cells_rule.specs.declared.view.CellView.{CellView}
use Rattle.npf_cells_rule.specs.Stood.{StoodSo}

-- the turn of a slot that is at this
abbrev pub turn_at : {S : Type 0} → ℕ → Slot S → Turn S
turn_at slot x = record { slot = slot; was = x; phase = stage_phase x.stage; ahead = None; said = None }

-- the pass got the turn, and carries what the slot held
pub record HasTaken {S A R : Type 0} (slot : ℕ) (old now : Me (Running S) (CellView S A R)) : Type 0 where
  pub was : Slot S
  pub is : now ≡ (record old.0 { turn = Some (turn_at slot was) }, (slot, running was.stage) ∷ [])

-- whether the turn was got: it was exactly where its word was 0 in a state in which the seat knew and had this
pub record GotTurn {S A R : Type 0} (m : Meaning S A R) (digest : Key → ℕ) (layout : Layout) (view : CellView S A R) (slot : ℕ) (got : Bool) : Type 0 where
  pub found : ℕ
  pub stood : StoodSo m digest layout view (field_at layout Slots slot turn_field) found
  pub answers : (got ≡ true) ↔ (found ≡ 0)

-- the kind, as what it tells
pub record TriesTurn {S A R : Type 0} (m : Meaning S A R) (digest : Key → ℕ) (layout : Layout) (slot : ℕ) (step : Step (Running S)) (me : Me (Running S) (CellView S A R)) (found : ℕ) (next : Me (Running S) (CellView S A R)) : Type 0 where
  pub stood : StoodSo m digest layout me.0 (field_at layout Slots slot turn_field) found
  pub won : found ≡ 0 → HasTaken slot me next
  pub lost : found ≢ 0 → next ≡ me

-- the pass has the slot's turn
pub record HasSlotTurn {S A R : Type 0} (v : CellView S A R) (slot : ℕ) : Type 0 where
  pub turn : Turn S
  pub has : v.turn ≡ Some turn
  pub there : turn.slot ≡ slot
