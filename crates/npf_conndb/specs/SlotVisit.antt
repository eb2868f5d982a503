-- What a call that frees connections makes of each slot: it freed a connection there, or says why it left the slot.
use Rattle.std.specs.Prelude.{◌≡◌, ℕ, ◌≤◌, Option, None, List, Contains}
use Rattle.npf_types.specs.declared.key.Key.{Key}
use Rattle.npf_core.specs.declared.conn_id.ConnId.{ConnId}
use Rattle.npf_core.specs.declared.stage.Stage.TheVariants.{Vacant}
use Rattle.npf_core.specs.History.{state_of, IsPrefix}
use Rattle.npf_core.specs.Meaning.{Meaning}
use Rattle.npf_connections.specs.Adding.{Adds}
use Rattle.npf_connections.specs.Entries.{free_entries}
use Rattle.npf_cells_words.specs.declared.layout.Layout.{Layout}
use Rattle.npf_cells_words.specs.declared.layout.Pool.TheVariants.{Slots}
use Rattle.npf_cells_words.specs.Layout.{notes_field, field_at}
use Rattle.npf_cells_pins.specs.declared.pin.EpochSide.{EpochSide}
use Rattle.npf_cells_rule.specs.declared.view.CellView.{CellView}
use Rattle.npf_cells_rule.specs.Passes.{cell_pass}
use Rattle.npf_cells_rule.specs.Stood.{StoodSo}
use Rattle.npf_turn.specs.Reclaims.{IsLongLeft, WhyLeft}

-- the pass while it frees: it has seen this history, knows this of the epoch, and found this word of the slots
abbrev pub having_freed : {S A R : Type 0} → CellView S A R → EpochSide → CellView S A R → CellView S A R
having_freed old epochs now = record old { seats = record old.seats { history = now.seats.history }; epochs = epochs; pools = record old.pools { found = now.pools.found } }

-- why a slot was left: nobody had claimed it, as the pass had seen; its first note didn't say that its connection was let go two epochs before or
-- earlier; or what a try to free it met
pub data WhyNotFreed {S A R : Type 0} (m : Meaning S A R) (digest : Key → ℕ) (layout : Layout) (v : CellView S A R) (slot : ℕ) : Type 0 where
  was_vacant : ((state_of m v.seats.history).slot slot).stage ≡ Vacant → WhyNotFreed m digest layout v slot
  was_noted : (note : ℕ) → StoodSo m digest layout v (field_at layout Slots slot notes_field) note → ¬ IsLongLeft note v.epochs.loaded → WhyNotFreed m digest layout v slot
  was_tried : WhyLeft m digest layout v slot v.epochs.loaded → WhyNotFreed m digest layout v slot

-- a point of the call, by what the pass then had and knew: it had seen a part of what it has seen in the end, and of its own only that these
-- connections were freed, had loaded this epoch, and had neither freed nor taken anything else
pub record IsOnTheWay {S A R : Type 0} (old now : CellView S A R) (epochs : EpochSide) (v : CellView S A R) : Type 0 where
  pub freed : List ConnId
  pub adds : Adds (cell_pass old) v.seats.history (free_entries (cell_pass old) freed)
  pub seen : IsPrefix v.seats.history now.seats.history
  pub is : v ≡ having_freed old epochs v
  pub turnless : v.turn ≡ None

-- the slot's connection is one of those freed, or it was left at a point of the call, for what was so there
pub data IsVisited {S A R : Type 0} (m : Meaning S A R) (digest : Key → ℕ) (layout : Layout) (old now : CellView S A R) (epochs : EpochSide) (ids : List ConnId) (slot : ℕ) : Type 0 where
  was_freed : (id : ConnId) → Contains ids id → id.slot ≡ slot → IsVisited m digest layout old now epochs ids slot
  was_left : (v : CellView S A R) → IsOnTheWay old now epochs v → WhyNotFreed m digest layout v slot → IsVisited m digest layout old now epochs ids slot

-- the call freed these connections by an epoch that it loaded, which is no earlier than those before it, and visited each of these slots
pub record VisitsSlots {S A R : Type 0} (m : Meaning S A R) (digest : Key → ℕ) (layout : Layout) (Done : ℕ → Type 0) (old now : CellView S A R) : Type 0 where
  pub epochs : EpochSide
  pub from : old.epochs.greatest ≤ epochs.loaded
  pub reached : epochs.loaded ≤ now.epochs.greatest
  pub ids : List ConnId
  pub adds : Adds (cell_pass old) now.seats.history (free_entries (cell_pass old) ids)
  pub each : (slot : ℕ) → Done slot → IsVisited m digest layout old now epochs ids slot

-- and is still on its way
pub record HasVisited {S A R : Type 0} (m : Meaning S A R) (digest : Key → ℕ) (layout : Layout) (Done : ℕ → Type 0) (old now : CellView S A R) : Type 0 where
  pub visits : VisitsSlots m digest layout Done old now
  pub is : now ≡ having_freed old visits.epochs now

-- the try of one slot: a connection there was freed, or the slot was left
pub record TriesSlot {S A R : Type 0} (m : Meaning S A R) (digest : Key → ℕ) (layout : Layout) (slot : ℕ) (freed : Option ConnId) (old now : CellView S A R) : Type 0 where
  pub is : now ≡ having_freed old old.epochs now
  pub left : freed ≡ None → WhyNotFreed m digest layout old slot
