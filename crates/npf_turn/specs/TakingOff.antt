-- What it leaves of a pass to take an empty node off, and to get one back.
use Rattle.std.specs.Prelude.{◌≡◌, ℕ, ◌+◌, ◌<◌, ◌≤◌, Bool, true, false, Some, None, [], ◌∷◌, Contains}
use Rattle.atomic_table.specs.Table.{Me}
use Rattle.npf_connections.specs.Worn.{last_epoch}
use Rattle.npf_paths.specs.declared.place.Place.{Place}
use Rattle.npf_paths.specs.Places.{lock_of}
use Rattle.npf_cells_words.specs.declared.mark.Emptied.{Emptied}
use Rattle.npf_cells_words.specs.Codes.{place_code}
use Rattle.npf_cells_pins.specs.declared.pin.EpochSide.{EpochSide}
use Rattle.npf_cells_leaves.specs.declared.trie.TrieSide.{TrieSide}
use Rattle.npf_cells_lives.specs.declared.pools.PoolSide.{PoolSide}
use Rattle.npf_cells_rule.specs.declared.view.CellView.{CellView}
use Rattle.npf_cells_rule.specs.Views.{with_trie}
use Rattle.npf_cells_holds.specs.UnlinkKinds.{emptied_at}

-- the pass has just emptied this place, and has its lock and no other: it marked nothing, and what it loaded before is forgotten
pub record HasEmptied (side : TrieSide) (p : Place) : Type 0 where
  pub only : side.locks ≡ lock_of p ∷ []
  pub knows : side.emptied ≡ emptied_at p
  pub unmarked : side.marks ≡ []
  pub unseen : side.seen ≡ None
  pub unmet : side.meets ≡ None

-- the pass, but for what it found under its locks
abbrev pub finding : {S A R F : Type 0} → Me F (CellView S A R) → Me F (CellView S A R) → Me F (CellView S A R)
finding old now = with_trie old (record old.0.trie { emptied = now.0.trie.emptied; met_mark = now.0.trie.met_mark })

-- the pass knows of this node that it hangs, and of some of its places that nothing stands there
abbrev pub KnowsNode : TrieSide → ℕ → Type 0
KnowsNode side node = (found : Emptied) × (side.emptied ≡ Some found) × (found.node ≡ node)

-- of all its places; and that its parent word names this place
abbrev pub FindsBare : TrieSide → ℕ → Type 0
FindsBare side node = (found : Emptied) × (side.emptied ≡ Some found) × (found.node ≡ node) × ((digit : ℕ) → digit < 16 → Contains found.digits digit)

abbrev pub FindsBareUnder : TrieSide → ℕ → Place → Type 0
FindsBareUnder side node place = (found : Emptied) × (side.emptied ≡ Some found) × (found.node ≡ node) × ((digit : ℕ) → digit < 16 → Contains found.digits digit) × (found.parent ≡ Some (place_code place))

-- it knows of the epoch what it knew, or of a later one, but of none past the last; and it reads as before
pub record EpochsGoOn (old now : EpochSide) : Type 0 where
  pub pin : now.pin ≡ old.pin
  pub raises : now.raises ≡ old.raises
  pub greatest : old.greatest ≤ now.greatest
  pub known : old.known ≤ now.known
  pub most : old.greatest ≤ last_epoch → now.greatest ≤ last_epoch

-- it loaded this epoch, or a later one
pub record HasReached (side : EpochSide) (epoch : ℕ) : Type 0 where
  pub loaded : epoch ≤ side.loaded
  pub known : epoch ≤ side.known

-- it has no lock then; it may have taken the place's node off, for which it loaded the epoch
pub record LeavesPlace {S A R F : Type 0} (old now : Me F (CellView S A R)) : Type 0 where
  pub is : now ≡ (record old.0 { epochs = now.0.epochs; trie = record old.0.trie { locks = []; emptied = None; met_mark = None } }, old.1)
  pub epochs : EpochsGoOn old.0.epochs now.0.epochs
  pub reaches : (epoch : ℕ) → HasReached old.0.epochs epoch → HasReached now.0.epochs epoch

-- a pass that may clear a mark: it has neither a node of its own nor one that it got back
pub record HasNoNodes (side : PoolSide) : Type 0 where
  pub nodes : side.nodes ≡ []
  pub unfreed : side.unfreed ≡ []

-- it cleared the mark in the place, whose lock it has still, and gave the node back; or it only loaded words
abbrev pub TriesToClear : {S A R F : Type 0} → Place → Bool → Me F (CellView S A R) → Me F (CellView S A R) → Type 0
TriesToClear p true old now = now ≡ (
  record old.0 {
    pools = record old.0.pools { found = now.0.pools.found; stored = [] };
    trie = record old.0.trie { seen = None; meets = None; met_mark = None; emptied = emptied_at p; regained = old.0.trie.regained + 1 };
  },
  old.1,
)
TriesToClear p false old now = now ≡ finding old now

-- it may have got a node back, which it gave back, and taken another off: but for that, and what it loaded and stored, it is as it was
pub record ReturnsNode {S A R F : Type 0} (freed : Bool) (old now : Me F (CellView S A R)) : Type 0 where
  pub is : now ≡ (
    record old.0 {
      epochs = now.0.epochs;
      pools = record old.0.pools { found = now.0.pools.found; stored = now.0.pools.stored };
      trie = record old.0.trie { seen = now.0.trie.seen; meets = now.0.trie.meets; emptied = now.0.trie.emptied; met_mark = now.0.trie.met_mark; regained = now.0.trie.regained };
    },
    old.1,
  )
  pub epochs : EpochsGoOn old.0.epochs now.0.epochs
  pub reaches : (epoch : ℕ) → HasReached old.0.epochs epoch → HasReached now.0.epochs epoch
  pub counts : freed ≡ true → now.0.trie.regained ≡ old.0.trie.regained + 1
  pub same : freed ≡ false → now.0.trie.regained ≡ old.0.trie.regained
