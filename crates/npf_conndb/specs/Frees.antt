-- How slots are freed.
use Rattle.std.specs.Prelude.{◌≡◌, ◌≢◌, ℕ, ◌+◌, ◌≤◌, ◌<◌, ◌/◌, Bool, true, false, Option, Some, None, List, [], ◌∷◌, length, slice_index_or}
use Rattle.atomic_table.specs.Table.{Me}
use Rattle.npf_core.specs.declared.conn_id.ConnId.{ConnId}
use Rattle.npf_core.specs.declared.stage.Stage.TheVariants.{Dead}
use Rattle.npf_core.specs.History.{state_of}
use Rattle.npf_core.specs.Meaning.{Meaning}
use Rattle.npf_connections.specs.Adding.{AddsOwn}
use Rattle.npf_connections.specs.Collecting.{IsWorn}
use Rattle.npf_connections.specs.Entries.{free_entries}
use Rattle.npf_connections.specs.Pass.{all_places}
use Rattle.npf_cells_rule.specs.declared.view.CellView.{CellView}
use Rattle.npf_cells_rule.specs.Passes.{cell_pass}
use Rattle.npf_conndb.specs.Between.{StaysBetween}

-- the connections of a slot that was freed, or none
abbrev pub freed_ids : Option ConnId → List ConnId
freed_ids None = []
freed_ids (Some id) = id ∷ []

-- this connection of the slot was freed, which ends the history, or nothing was added to it. Where the pass owns all reader places no other slot changed, and where it isn't worn and
-- loaded an epoch two after each with which it let a connection go, none is Dead in the slot
pub record CollectsSlot {S A R F : Type 0} (m : Meaning S A R) (slot : ℕ) (freed : Option ConnId) (old now : Me F (CellView S A R)) : Type 0 where
  pub there : (id : ConnId) → freed ≡ Some id → id.slot ≡ slot
  pub adds : AddsOwn (cell_pass old.0) now.0.seats.history (free_entries (cell_pass old.0) (freed_ids freed))
  pub same : freed ≡ None → now.0.seats.history ≡ old.0.seats.history
  pub stays : StaysBetween m old.0 now.0
  pub loaded : now.0.epochs.loaded ≡ old.0.epochs.loaded
  pub dated : now.0.pools.dated ≡ old.0.pools.dated
  pub others : length old.0.seats.readers ≡ all_places → (p : ℕ) → p ≢ slot → (state_of m now.0.seats.history).slot p ≡ (state_of m old.0.seats.history).slot p
  pub clean : length old.0.seats.readers ≡ all_places → ¬ IsWorn (cell_pass old.0) → old.0.pools.dated + 2 ≤ old.0.epochs.loaded → ((state_of m now.0.seats.history).slot slot).stage ≢ Dead

-- with this epoch the pass freed these connections, which ends the history, if any; and where it owns all reader places and isn't worn, nothing
-- Dead is in these slots
pub record HasCollected {S A R F : Type 0} (m : Meaning S A R) (epoch : ℕ) (Done : ℕ → Type 0) (old now : Me F (CellView S A R)) : Type 0 where
  pub ids : List ConnId
  pub adds : AddsOwn (cell_pass old.0) now.0.seats.history (free_entries (cell_pass old.0) ids)
  pub stays : StaysBetween m old.0 now.0
  pub loaded : now.0.epochs.loaded ≡ epoch
  pub dated : now.0.pools.dated ≡ old.0.pools.dated
  pub later : length old.0.seats.readers ≡ all_places → ¬ IsWorn (cell_pass now.0) → old.0.pools.dated + 2 ≤ epoch
  pub clean : length old.0.seats.readers ≡ all_places → ¬ IsWorn (cell_pass now.0) → (p : ℕ) → Done p → ((state_of m now.0.seats.history).slot p).stage ≢ Dead

-- the slot's claim bit is in a word that was noted as one without any, where a flag for each word says whether it had some
pub record IsNotedVacant (slots : ℕ) (flags : List Bool) (slot : ℕ) : Type 0 where
  pub exists : slot < slots
  pub clear : slice_index_or flags (slot / 64) true ≡ false
