-- What a hold changes in a pass's own view, and what it tells.
use Rattle.std.specs.Prelude.{◌≡◌, ◌≢◌, ℕ, ◌+◌, ◌≤◌, ◌<◌, Option, Some, None, List, [], Contains, length}
use Rattle.atomic_table.specs.Table.{Me}
use Rattle.npf_types.specs.declared.key.Key.{Key}
use Rattle.npf_types.specs.declared.key.Way.{Way}
use Rattle.npf_core.specs.declared.conn_id.ConnId.{ConnId}
use Rattle.npf_core.specs.declared.held.Held.{Held}
use Rattle.npf_core.specs.Meaning.{Meaning}
use Rattle.npf_connections.specs.Adding.{AddsOwn}
use Rattle.npf_connections.specs.Answered.{taken_ids}
use Rattle.npf_connections.specs.Entries.{hold_entries}
use Rattle.npf_connections.specs.Pass.{IsPass}
use Rattle.npf_connections.specs.Worn.{last_epoch}
use Rattle.npf_paths.specs.declared.cell.Cell.TheVariants.{Leaf}
use Rattle.npf_paths.specs.declared.place.Place.TheVariants as Places
use Rattle.npf_paths.specs.Growing.{IsBranch}
use Rattle.npf_paths.specs.LevelLaw.{AreApart}
use Rattle.npf_cells_words.specs.declared.layout.Layout.{Layout}
use Rattle.npf_cells_rule.specs.declared.view.CellView.{CellView}
use Rattle.npf_cells_leaves.specs.declared.trie.LoadedLeaf.{LoadedLeaf}
use Rattle.npf_cells_leaves.specs.declared.trie.Meeting.{Meeting}
use Rattle.npf_cells_leaves.specs.declared.trie.TrieSide.{TrieSide}
use Rattle.npf_cells_holds.specs.HoldKinds.{MayHoldSo, leaf_holder}
use Rattle.npf_cells_holds.specs.LookKinds.{StandsOnPath, level_at}
use Rattle.npf_cells_rule.specs.Views.{with_trie}
use Rattle.npf_cells_rule.specs.Passes.{IsProtected, cell_pass}
use Rattle.npf_cells_holds.specs.PublishKinds.{HasStoredKey, IsParentStored, cell_stored, nodes_but}
use Rattle.npf_cells_words.specs.Places.{IsInTrie}
use Rattle.npf_cells_leaves.specs.Parents.{foot_place, NameParents}
use Rattle.npf_cells_leaves.specs.Sights.{SeesLocked}
use Rattle.npf_cells_lives.specs.declared.pools.Note.{Note}
use Rattle.npf_cells_lives.specs.declared.turn.Turn.{Turn}
use Rattle.npf_cells_lives.specs.Notes.{notes_but, with_ahead}
use Rattle.npf_cells_words.specs.Layout.{note_field}
use Rattle.npf_trie.specs.declared.step.Branch.{Branch}
use Rattle.npf_cells_leaves.specs.Trie.{digits_of}
use Rattle.npf_trie.specs.declared.step.LeafKey.{LeafKey}
use Rattle.npf_trie.specs.declared.step.LeafKey.TheVariants.{Holder, Other}
use Rattle.npf_trie.specs.declared.step.OtherLeaf.{OtherLeaf}
use Rattle.npf_trie.specs.declared.step.Point.{Point}
use Rattle.npf_trie.specs.declared.step.Step.{Step}
use Rattle.npf_trie.specs.declared.step.Step.TheVariants.{Ends, Leads, Again, Anew}
use Rattle.npf_trie.specs.declared.step.Wanted.{Wanted}

-- a pass that is to hold a key for a connection: it is building it, has stored its incarnation and seen it take no key of that way, and has
-- neither a node, also none that it got back, nor a lock nor a turn
pub record CanHold {S A R : Type 0} (m : Meaning S A R) (layout : Layout) (v : CellView S A R) (id : ConnId) (way : Way) : Type 0 where
  pub may : MayHoldSo m v id way
  pub exists : id.slot < layout.slots
  pub stored : ¬ Contains v.pools.unstored id.slot
  pub nodes : v.pools.nodes ≡ []
  pub unfreed : v.pools.unfreed ≡ []
  pub locks : v.trie.locks ≡ []
  pub turnless : v.turn ≡ None

-- what a hold changes: what the pass loaded and stored, and the history that it has seen
abbrev pub having_held : {S A R : Type 0} → CellView S A R → CellView S A R → CellView S A R
having_held old now = record old {
  seats = record old.seats { history = now.seats.history };
  pools = record old.pools { found = now.pools.found; row = now.pools.row; sweeps = now.pools.sweeps; stored = now.pools.stored; notes = now.pools.notes };
  trie = record now.trie { locks = old.trie.locks };
}

-- the same without an entry: nothing is held yet, nothing was published, and it has no fewer sweeps
pub record HoldsOn {S A R F : Type 0} (old now : Me F (CellView S A R)) : Type 0 where
  pub is : now ≡ (having_held old.0 now.0, old.1)
  pub history : now.0.seats.history ≡ old.0.seats.history
  pub sweeps : old.0.pools.sweeps ≤ now.0.pools.sweeps
  pub unpublished : now.0.trie.published ≡ old.0.trie.published
  pub noted : now.0.pools.notes ≡ old.0.pools.notes

-- the notes that the pass stored freely, behind an answer: those of before, without that of the way that is now held
abbrev pub noted_after : Held → ConnId → Way → List Note → List Note
noted_after Held.Done id way notes = notes_but id.slot (note_field way) notes
noted_after (Held.Taken found) id way notes = notes
noted_after Held.NoNode id way notes = notes

-- the place that a pass loaded last for a key had the leaf of another
pub record MeetsAnother (side : TrieSide) (key : Key) : Type 0 where
  pub meeting : Meeting
  pub met : side.meets ≡ Some meeting
  pub key_is : meeting.key ≡ key
  pub apart : meeting.other ≢ key

-- the hold of the key, with what it is answered, is the pass's one new entry and ends its history; without a node there is none, the history
-- is what it was, another key stood in the way, the sweeps rose where the table has nodes at all, and nothing was published
pub record SettlesHold {S A R F : Type 0} (m : Meaning S A R) (layout : Layout) (id : ConnId) (key : Key) (way : Way) (held : Held) (old now : Me F (CellView S A R)) : Type 0 where
  pub adds : AddsOwn (cell_pass old.0) now.0.seats.history (hold_entries (cell_pass old.0) id key way held)
  pub legal : held ≢ Held.NoNode → IsPass m (cell_pass now.0)
  pub same : held ≡ Held.NoNode → now.0.seats.history ≡ old.0.seats.history
  pub answered : now.0.trie.answered ≡ taken_ids held
  pub is : now ≡ (having_held old.0 now.0, old.1)
  pub sweeps : old.0.pools.sweeps ≤ now.0.pools.sweeps
  pub swept : held ≡ Held.NoNode → 1 ≤ layout.nodes → old.0.pools.sweeps + 1 ≤ now.0.pools.sweeps
  pub met : held ≡ Held.NoNode → MeetsAnother now.0.trie key
  pub unpublished : held ≡ Held.NoNode → now.0.trie.published ≡ old.0.trie.published
  pub noted : now.0.pools.notes ≡ noted_after held id way old.0.pools.notes

-- the place where a pass is on the path of a key that is to be held
pub record IsAtPlace {S A R : Type 0} (digest : Key → ℕ) (layout : Layout) (v : CellView S A R) (key : Key) (point : Point) : Type 0 where
  pub place : IsInTrie layout point.place
  pub stands : StandsOnPath digest v.trie key point.place
  pub level_is : level_at v.trie point.place ≡ point.level
  pub within : point.level < 95

-- before it ended a hold may have begun new stays, in which it may have got nodes back and has given them back: what it is building stays
pub record StaysAnew {S A R F : Type 0} (old now : Me F (CellView S A R)) : Type 0 where
  pub is : now ≡ (record (having_held old.0 now.0) { epochs = now.0.epochs }, old.1)
  pub history : now.0.seats.history ≡ old.0.seats.history
  pub sweeps : old.0.pools.sweeps ≤ now.0.pools.sweeps
  pub unpublished : now.0.trie.published ≡ old.0.trie.published
  pub noted : now.0.pools.notes ≡ old.0.pools.notes
  pub places : old.0.trie.places ≤ now.0.trie.places
  pub protected : IsProtected now.0.epochs.pin
  pub greatest : old.0.epochs.greatest ≤ now.0.epochs.greatest
  pub known : old.0.epochs.known ≤ now.0.epochs.known
  pub most : old.0.epochs.greatest ≤ last_epoch → now.0.epochs.greatest ≤ last_epoch

-- the pass ended its stay and is in another: it stands nowhere, and knows no leaf and no answer. Only the end of a stay makes it forget where it stands
pub record IsInNewStay {S A R : Type 0} (v : CellView S A R) : Type 0 where
  pub protected : IsProtected v.epochs.pin
  pub stands : v.trie.stands ≡ None
  pub leaf : v.trie.leaf ≡ None
  pub answered : v.trie.answered ≡ []

-- the hold then ends in the last of these stays
pub record SettlesAnew {S A R F : Type 0} (m : Meaning S A R) (layout : Layout) (id : ConnId) (key : Key) (way : Way) (held : Held) (old now : Me F (CellView S A R)) : Type 0 where
  pub between : Me F (CellView S A R)
  pub anew : StaysAnew old between
  pub settles : SettlesHold m layout id key way held between now

-- one step of a hold at that place: it ends with this answer, or a node leads on, or the pass is still there and looks again, or a mark was met
abbrev pub StepsSo : {S A R F : Type 0} → Meaning S A R → (Key → ℕ) → Layout → Wanted → Point → Step → Me F (CellView S A R) → Me F (CellView S A R) → Type 0
StepsSo m digest layout wanted point (Ends held) old now = SettlesHold m layout wanted.id wanted.key wanted.way held old now
StepsSo m digest layout wanted point (Leads node) old now = HoldsOn old now ×
    IsAtPlace digest layout now.0 wanted.key (record { place = Places.Node node (digits_of digest wanted.key (point.level + 1)); level = point.level + 1 })
StepsSo m digest layout wanted point Again old now = HoldsOn old now × IsAtPlace digest layout now.0 wanted.key point
StepsSo m digest layout wanted point Anew old now = HoldsOn old now

-- whose key a leaf has: this key, held by its connection, or another
abbrev pub TellsMet : LoadedLeaf → Key → LeafKey → Type 0
TellsMet leaf key (Holder found) = (leaf.key ≡ key) × (found ≡ leaf_holder leaf)
TellsMet leaf key (Other other) = (leaf.key ≢ key) × (other ≡ leaf.key)

-- the pass has just met this leaf of another key, where it is to hold the key: its new stay has no answer yet
pub record HasMet (side : TrieSide) (key : Key) (level : ℕ) (other : OtherLeaf) : Type 0 where
  pub leaf : LoadedLeaf
  pub known : side.leaf ≡ Some leaf
  pub slot_is : leaf.slot ≡ other.slot
  pub way_is : leaf.way ≡ other.way
  pub key_is : leaf.key ≡ other.key
  pub apart : other.key ≢ key
  pub meets : side.meets ≡ Some (record { key = key; other = other.key; level = level })
  pub unanswered : side.answered ≡ []

-- the pass has a slot's turn, and is ahead of no note
pub record HasNewTurn {S : Type 0} (turn : Option (Turn S)) (slot : ℕ) : Type 0 where
  pub mine : Turn S
  pub has : turn ≡ Some mine
  pub there : mine.slot ≡ slot
  pub settled : mine.ahead ≡ None

-- new nodes that the pass owns, built for both leaves, and nothing else: the first of them may be hung in the place, and then the leaves stand
-- at their foot. The pass marked no node
pub record HasGrown {S A R : Type 0} (m : Meaning S A R) (digest : Key → ℕ) (layout : Layout) (v : CellView S A R) (wanted : Wanted) (point : Point) (branch : Branch) : Type 0 where
  pub may : MayHoldSo m v wanted.id wanted.way
  pub exists : wanted.id.slot < layout.slots
  pub stored : ¬ Contains v.pools.unstored wanted.id.slot
  pub unmarked : v.trie.marks ≡ []
  pub at : IsAtPlace digest layout v wanted.key point
  pub key_stored : HasStoredKey layout v.pools.stored wanted.id.slot wanted.way wanted.key
  pub nodes : List ℕ
  pub leads : IsBranch (digits_of digest wanted.key) (digits_of digest branch.other.key) (cell_stored layout v.pools.stored) (Leaf wanted.id.slot wanted.way) (Leaf branch.other.slot branch.other.way) (point.level + 1) branch.first nodes
  pub owned : (node : ℕ) → Contains nodes node → Contains v.pools.nodes node
  pub apart : AreApart nodes
  pub parents : NameParents (digits_of digest wanted.key) (IsParentStored layout v.pools.stored) (point.level + 1) point.place nodes
  pub all : nodes_but nodes v.pools.nodes ≡ []
  pub some : 1 ≤ length nodes
  pub own_place : branch.own_place ≡ foot_place (digits_of digest wanted.key) (point.level + 1) point.place nodes
  pub moved_to : branch.moved_to ≡ foot_place (digits_of digest branch.other.key) (point.level + 1) point.place nodes

-- the pass has just seen the leaf of another key there, under the place's lock
pub record SeesOtherLeaf (side : TrieSide) (key : Key) (point : Point) (other : OtherLeaf) : Type 0 where
  pub leaf : LoadedLeaf
  pub known : side.leaf ≡ Some leaf
  pub is : (leaf.slot ≡ other.slot) × (leaf.way ≡ other.way) × (leaf.key ≡ other.key)
  pub differs : leaf.key ≢ key
  pub sees : SeesLocked side point.place (Leaf leaf.slot leaf.way)

-- the pass loaded a place, under its lock, and has its nodes still
pub record HoldsNodes {S A R F : Type 0} (old now : Me F (CellView S A R)) : Type 0 where
  pub is : now ≡ with_trie old (record now.0.trie { locks = old.0.trie.locks; marks = old.0.trie.marks })
  pub unpublished : now.0.trie.published ≡ old.0.trie.published

-- the hold ended: Done by the nodes, or Taken with the nodes still the pass's
pub record HasHung {S A R F : Type 0} (m : Meaning S A R) (wanted : Wanted) (held : Held) (old now : Me F (CellView S A R)) : Type 0 where
  pub some : held ≢ Held.NoNode
  pub adds : AddsOwn (cell_pass old.0) now.0.seats.history (hold_entries (cell_pass old.0) wanted.id wanted.key wanted.way held)
  pub legal : IsPass m (cell_pass now.0)
  pub answered : now.0.trie.answered ≡ taken_ids held
  pub done : held ≡ Held.Done → now ≡ (
    record old.0 {
      seats = record old.0.seats { history = now.0.seats.history };
      pools = record old.0.pools { nodes = []; stored = now.0.pools.stored; notes = notes_but wanted.id.slot (note_field wanted.way) old.0.pools.notes };
      trie = record now.0.trie { locks = old.0.trie.locks; marks = old.0.trie.marks };
      turn = with_ahead None old.0.turn;
    },
    old.1,
  )
  pub taken : held ≢ Held.Done → now ≡ (record old.0 { seats = record old.0.seats { history = now.0.seats.history }; trie = record now.0.trie { locks = old.0.trie.locks; marks = old.0.trie.marks } }, old.1)

-- what comes of it: the key is held, by the new nodes, which aren't the pass's any more, or is Taken; or nothing was changed
abbrev pub HangsSo : {S A R F : Type 0} → Meaning S A R → (Key → ℕ) → Layout → Wanted → Point → Step → Me F (CellView S A R) → Me F (CellView S A R) → Type 0
HangsSo m digest layout wanted point (Ends held) old now = HasHung m wanted held old now
HangsSo m digest layout wanted point (Leads node) old now = HoldsNodes old now ×
    IsAtPlace digest layout now.0 wanted.key (record { place = Places.Node node (digits_of digest wanted.key (point.level + 1)); level = point.level + 1 })
HangsSo m digest layout wanted point Again old now = HoldsNodes old now × IsAtPlace digest layout now.0 wanted.key point
HangsSo m digest layout wanted point Anew old now = HoldsNodes old now
