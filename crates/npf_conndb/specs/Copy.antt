-- What a copy of a slot's connection says, and what it leaves of the pass.
use Rattle.std.specs.Prelude.{◌≡◌, ℕ, Option, Some}
use Rattle.atomic_table.specs.Table.{Me}
use Rattle.npf_types.specs.declared.key.Key.{Key}
use Rattle.npf_types.specs.declared.key.Way.{Way}
use Rattle.npf_core.specs.declared.kept.Kept.{Kept}
use Rattle.npf_core.specs.declared.slot.Slot.{Slot}
use Rattle.npf_core.specs.Copying.{Copies, HoldsIf}
use Rattle.npf_core.specs.History.{state_of}
use Rattle.npf_core.specs.Meaning.{Meaning}
use Rattle.npf_cells_lives.specs.Deaths.{last_id}
use Rattle.npf_cells_lives.specs.Turns.{Running, running, stage_phase}
use Rattle.npf_cells_rule.specs.declared.view.CellView.{CellView}
use Rattle.npf_cells_turns.specs.SightKinds.{StaysByTurn}
use Rattle.npf_cells_turns.specs.TurnKinds.{turn_at}

-- only the count of loaded key words may have risen
abbrev pub having_read : {S A R : Type 0} → CellView S A R → CellView S A R → CellView S A R
having_read v now = record v { trie = record v.trie { words = now.trie.words } }

-- the pass has the slot's turn, under which it stored nothing; the slot held this when it got it, and is so still by what the pass has seen
pub record FoundInSlot {S A R : Type 0} (m : Meaning S A R) (slot : ℕ) (found : Running S) (v : CellView S A R) : Type 0 where
  pub was : Slot S
  pub turn : v.turn ≡ Some (turn_at slot was)
  pub held : found ≡ running was.stage
  pub stays : StaysByTurn (state_of m v.seats.history) v.turn

-- the pass has the slot's turn, under which it stored nothing, and got it while the slot's connection was Live
pub record HasLiveOne {S A R : Type 0} (slot : ℕ) (v : CellView S A R) : Type 0 where
  pub was : Slot S
  pub turn : v.turn ≡ Some (turn_at slot was)
  pub live : stage_phase was.stage ≡ 1

-- the key of a way was copied as what the pass had seen has it
pub record CopiesKey {S A R F : Type 0} (m : Meaning S A R) (slot : ℕ) (way : Way) (key : Option Key) (old now : Me F (CellView S A R)) : Type 0 where
  pub held : HoldsIf (state_of m old.0.seats.history) (last_id (state_of m old.0.seats.history) slot) way key
  pub is : now ≡ (having_read old.0 now.0, old.1)

-- and so was the connection
pub record HasCopied {S A R F : Type 0} (m : Meaning S A R) (slot : ℕ) (kept : Option (Kept S)) (old now : Me F (CellView S A R)) : Type 0 where
  pub copies : Copies (state_of m old.0.seats.history) slot kept
  pub is : now ≡ (having_read old.0 now.0, old.1)
