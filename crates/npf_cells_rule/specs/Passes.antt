-- What a pass of the table shows, and which passes belong to a table.
use Rattle.std.specs.Prelude.{◌≡◌, ℕ, ◌≤◌, ◌<◌, Bool, true, false, Option, Some, None, List, [], ◌∷◌, Contains, length}
use Rattle.atomic_table.specs.Seated.{TableId}
use Rattle.atomic_table.specs.Table.{Me}
use Rattle.npf_core.specs.declared.entry.Entry.{Entry}
use Rattle.npf_connections.specs.Pass.{Pass, all_places}
use Rattle.npf_connections.specs.Worn.{last_epoch}
use Rattle.npf_paths.specs.declared.place.Lock.TheVariants as Locking
use Rattle.npf_cells_words.specs.declared.layout.Layout.{Layout}
use Rattle.npf_cells_words.specs.declared.mark.Marked.{Marked}
use Rattle.npf_cells_words.specs.Layout.{word_count}
use Rattle.npf_cells_pins.specs.declared.pin.Pin.{Pin}
use Rattle.npf_cells_pins.specs.declared.pin.Pin.TheVariants.{Idle, Pinned, Protected}
use Rattle.npf_cells_pins.specs.Epochs.{pin_place}
use Rattle.npf_cells_lives.specs.declared.turn.Turn.{Turn}
use Rattle.npf_cells_rule.specs.declared.view.CellView.{CellView}

-- a pass is in a stay from its pin on
abbrev pub is_pinned : Pin → Bool
is_pinned Idle = false
is_pinned (Pinned _) = true
is_pinned (Protected _ _) = true

-- a pass is protected from the load after its pin on
abbrev pub IsProtected : Pin → Type 0
IsProtected Idle = ⊥
IsProtected (Pinned _) = ⊥
IsProtected (Protected _ _) = Unit {0}

-- what a pass shows
abbrev pub cell_pass : {S A R : Type 0} → CellView S A R → Pass (Entry S A R)
cell_pass v = record {
  slots = v.seats.about;
  number = v.seats.number;
  history = v.seats.history;
  entered = is_pinned v.epochs.pin;
  answered = v.trie.answered;
  builds = v.pools.builds;
  places = length v.seats.readers;
  joined = v.seats.joined;
  sweeps = v.pools.sweeps;
  epoch = v.epochs.greatest;
}

-- a pass carries the value of the slot whose turn it has, and nothing else
abbrev pub CarriesByTurn : {S F : Type 0} → Option (Turn S) → List (ℕ × F) → Type 0
CarriesByTurn {S} {F} None carried = carried ≡ []
CarriesByTurn {S} {F} (Some turn) carried = (value : F) × (carried ≡ (turn.slot, value) ∷ [])

-- a pass of this table, between two calls: it has its number and all that it was told, knows which reader places it owns, and has the locks of the nodes that it marked
pub record IsPassOf {S A R F : Type 0} (layout : Layout) (table seat : TableId) (readers : List ℕ) (me : Me F (CellView S A R)) : Type 0 where
  pub same : seat ≡ table
  pub words : table.words ≡ word_count layout
  pub carries : CarriesByTurn me.0.turn me.1
  pub sized : me.0.seats.about ≡ layout.slots
  pub lives : me.0.seats.lives ≡ true
  pub theirs : me.0.seats.theirs ≡ []
  pub owns : readers ≡ me.0.seats.readers
  pub place : 1 ≤ length me.0.seats.readers
  pub most : length me.0.seats.readers ≤ all_places
  pub reader : pin_place me.0.seats.readers < all_places
  pub epoch : me.0.epochs.loaded ≤ last_epoch
  pub unanswered : me.0.epochs.pin ≡ Idle → me.0.trie.answered ≡ []
  pub unlocked : me.0.epochs.pin ≡ Idle → me.0.trie.locks ≡ []
  pub marked : (m : Marked) → Contains me.0.trie.marks m → Contains me.0.trie.locks (Locking.Node m.node)
