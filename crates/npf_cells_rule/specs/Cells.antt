-- The rule of the table without locks: its parts, over its words and the sides of the views, and what it says of each pass by itself.
use Rattle.std.specs.Prelude.{◌≡◌, ℕ, None, List, map, length}
use mathlib.Core.Option.{some}
use lib.ListN.{get_elem?}
use Rattle.atomic_table.specs.Table.{State}
use Rattle.npf_types.specs.declared.key.Key.{Key}
use Rattle.npf_core.specs.declared.entry.Entry.{Entry}
use Rattle.npf_core.specs.History.{state_of}
use Rattle.npf_core.specs.Meaning.{Meaning}
use Rattle.npf_connections.specs.Pass.{all_places}
use Rattle.npf_cells_words.specs.declared.layout.Layout.{Layout}
use Rattle.npf_cells_words.specs.Layout.{epoch_word, reader_word}
use Rattle.npf_seats.specs.Moves.{first_seat}
use Rattle.npf_seats.specs.Seats.{Seats}
use Rattle.npf_cells_pins.specs.Epochs.{Epochs, idle_side}
use Rattle.npf_cells_leaves.specs.Trie.{HasNoWalk, Trie, trie_words, unread_side}
use Rattle.npf_cells_lives.specs.Conns.{Conns, entry_seat}
use Rattle.npf_cells_lives.specs.Deaths.{Deaths, unreclaimed}
use Rattle.npf_cells_lives.specs.Known.{Known}
use Rattle.npf_cells_lives.specs.Locks.{Locks}
use Rattle.npf_cells_lives.specs.Notes.{Notes}
use Rattle.npf_cells_lives.specs.Pools.{taken, Pools, empty_handed}
use Rattle.npf_cells_lives.specs.Stored.{StoredWords}
use Rattle.npf_cells_marks.specs.Marks.{Marks}
use Rattle.npf_cells_rule.specs.declared.view.CellView.{CellView}
use Rattle.npf_cells_rule.specs.Passes.{IsProtected}
use Rattle.npf_cells_rule.specs.Views.{seat_side, reader_view, lock_side, pool_side, trie_side, turn_side, death_side, seen_side, mark_side, nothing_left}
use Rattle.npf_cells_lives.specs.Turns.{Running, Turns}
use Rattle.npf_cells_rule.specs.Readers.{readers_in_turn}

-- what the rule says of one pass by itself: one that isn't protected walked nowhere and has no lock, and one that owns no reader place,
-- whose seat is spent, is nothing at all
pub record FitsAlone {S A R : Type 0} (v : CellView S A R) : Type 0 where
  pub out : ¬ (IsProtected v.epochs.pin) → HasNoWalk v.trie
  pub spent : length v.seats.readers ≡ 0 → v ≡ nothing_left

abbrev pub AllFitAlone : {S A R : Type 0} → List (CellView S A R) → Type 0
AllFitAlone {S} {A} {R} views = (j : ℕ) (v : CellView S A R) → get_elem? views j ≡ some v → FitsAlone v

-- the rule
pub record IsCells {S A R : Type 0} (m : Meaning S A R) (digest : Key → ℕ) (layout : Layout) (s : State (Running S) (CellView S A R)) : Type 0 where
  pub log : List (Entry S A R)
  pub published : List ℕ
  pub seats : Seats entry_seat layout.slots all_places log (map seat_side s.views)
  pub epochs : Epochs (epoch_word s.words) (reader_word s.words) (map reader_view s.views)
  pub pools : Pools layout (taken pool_side published (state_of m log) s.views) s.words
  pub trie : Trie trie_side digest layout published (state_of m log) s.words s.views
  pub connections : Conns pool_side m layout log s.words s.views
  pub stored : StoredWords pool_side layout s.words s.views
  pub locks : Locks lock_side layout s.words s.views
  pub turns : Turns turn_side layout (unreclaimed death_side s.views (state_of m log)) s.words s.homes s.views
  pub deaths : Deaths death_side layout (state_of m log) s.words s.views
  pub known : Known (seen_side m) pool_side (state_of m log) s.views
  pub notes : Notes turn_side pool_side layout (trie_words layout s.words).cell (state_of m log) s.words s.views
  pub marks : Marks mark_side layout published s.words s.views
  pub alone : AllFitAlone s.views

-- the first pass, which owns all reader places
abbrev pub first_cell_view : {S A R : Type 0} → Layout → CellView S A R
first_cell_view layout = record {
  seats = first_seat layout.slots readers_in_turn;
  epochs = idle_side;
  pools = empty_handed;
  trie = unread_side;
  turn = None;
}
