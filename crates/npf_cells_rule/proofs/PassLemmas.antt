-- A pass of the table stays one.
use Rattle.std.proofs.Common.{◌≡◌, ℕ, Option, None, List, [], ◌∙◌, true, refl}
use Rattle.atomic_table.specs.{Seated.TableId, Table.Me}
use Rattle.npf_core.specs.declared.entry.Entry.{Entry}
use Rattle.npf_cells_words.specs.declared.layout.Layout.{Layout}
use Rattle.npf_cells_pins.specs.declared.pin.Pin.{Pin, TheVariants.{Idle, Pinned, Protected}}
use Rattle.npf_cells_lives.specs.declared.{pools.PoolSide.PoolSide, turn.Turn.Turn}
use Rattle.npf_cells_rule.specs.{declared.view.CellView.CellView, Passes.{CarriesByTurn, IsPassOf, is_pinned, IsProtected}, Views.with_pools}

-- a pass of the table stays one through a step that changes what it has seen of the history, what it knows and has of the pools, its turn and what
-- it carries, and nothing else
pub passes_on : {S A R F : Type 0} (layout : Layout) (table seat seat' : TableId) (readers : List ℕ) (me : Me F (CellView S A R))
    (history : List (Entry S A R)) (pools : PoolSide) (turn : Option (Turn S)) (carried : List (ℕ × F)) →
    IsPassOf layout table seat readers me → seat' ≡ seat → CarriesByTurn turn carried →
    IsPassOf layout table seat' readers (record me.0 { seats = record me.0.seats { history = history }; pools = pools; turn = turn }, carried)
passes_on layout table seat seat' readers me history pools turn carried own same carries = record {
  same = same ∙ own.same;
  words = own.words;
  carries = carries;
  sized = own.sized;
  lives = own.lives;
  theirs = own.theirs;
  owns = own.owns;
  place = own.place;
  most = own.most;
  reader = own.reader;
  epoch = own.epoch;
  unanswered = own.unanswered;
  unlocked = own.unlocked;
  marked = own.marked;
}

-- through one that changes what it knows and has of the pools
pub pools_on : {S A R F : Type 0} (layout : Layout) (table seat seat' : TableId) (readers : List ℕ) (me next : Me F (CellView S A R)) (side : PoolSide) →
    IsPassOf layout table seat readers me → seat' ≡ seat → next ≡ with_pools me side → IsPassOf layout table seat' readers next
pools_on layout table seat seat' readers me next side own same is = rw is (passes_on layout table seat seat' readers me me.0.seats.history side me.0.turn me.1 own same own.carries)

-- a pass that is protected is in a stay
pub pinned_in : (pin : Pin) → IsProtected pin → is_pinned pin ≡ true
pinned_in Idle h = absurd h
pinned_in (Pinned epoch) h = refl
pinned_in (Protected pinned epoch) h = refl

-- a pass without a turn carries nothing
pub turnless_free : {S F : Type 0} {turn : Option (Turn S)} {carried : List (ℕ × F)} → turn ≡ None → CarriesByTurn turn carried → carried ≡ []
turnless_free {carried = carried} none carries = rw none at carries
