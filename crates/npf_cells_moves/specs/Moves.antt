-- How passes are split and joined, and what the step after it tells.
use Rattle.std.specs.Prelude.{◌≡◌, ◌≢◌, ◌⊎◌, ℕ, max, ◌+◌, ◌≤◌, ◌<◌, true, None, List, [], ◌++◌, Contains, length}
use Rattle.atomic_table.specs.Table.{Me, Step}
use Rattle.npf_core.specs.declared.entry.Entry.{Entry}
use Rattle.npf_core.specs.History.{Legal, IsPrefix, by}
use Rattle.npf_core.specs.Meaning.{Meaning}
use Rattle.npf_connections.specs.Pass.{IsOwn, all_places}
use Rattle.npf_connections.specs.Worn.{last_epoch}
use Rattle.npf_seats.specs.Moves.{givers_seat, given_seat, taking_seat}
use Rattle.npf_cells_pins.specs.Epochs.{idle_side, pin_place}
use Rattle.npf_cells_pins.specs.Pinning.{joined_epochs}
use Rattle.npf_cells_leaves.specs.declared.trie.TrieSide.{TrieSide}
use Rattle.npf_cells_leaves.specs.Trie.{unread_side}
use Rattle.npf_cells_lives.specs.declared.pools.PoolSide.{PoolSide}
use Rattle.npf_cells_lives.specs.Pools.{empty_handed}
use Rattle.npf_cells_rule.specs.declared.view.CellView.{CellView}
use Rattle.npf_cells_rule.specs.Passes.{cell_pass}

abbrev pub gives_reader : {S A R : Type 0} → CellView S A R → CellView S A R
gives_reader v = record v { seats = givers_seat v.seats }

abbrev pub given_view : {S A R : Type 0} → CellView S A R → CellView S A R
given_view v = record { seats = given_seat v.seats; epochs = idle_side; pools = empty_handed; trie = unread_side; turn = None }

abbrev pub joined_pools : PoolSide → PoolSide → PoolSide
joined_pools mine theirs = record mine { sweeps = mine.sweeps + theirs.sweeps; dated = max mine.dated theirs.dated; unfreed = mine.unfreed ++ theirs.unfreed }

abbrev pub joined_trie : TrieSide → TrieSide → TrieSide
joined_trie mine theirs = record mine {
  places = mine.places + theirs.places;
  words = mine.words + theirs.words;
  published = mine.published + theirs.published;
  grown = mine.grown + theirs.grown;
  regained = mine.regained + theirs.regained;
}

abbrev pub takes_in : {S A R : Type 0} → CellView S A R → CellView S A R → CellView S A R
takes_in v w = record {
  seats = taking_seat v.seats w.seats;
  epochs = joined_epochs v.epochs w.epochs;
  pools = joined_pools v.pools w.pools;
  trie = joined_trie v.trie w.trie;
  turn = v.turn;
}

-- the new seat got its number: it is no other's, and has no entry
pub record IsBorn {S A R F : Type 0} (m : Meaning S A R) (step : Step F) (me : Me F (CellView S A R)) (found : ℕ) (next : Me F (CellView S A R)) : Type 0 where
  pub number : ℕ
  pub is : next ≡ (record me.0 { seats = record me.0.seats { number = number; lives = true; others = [] } }, me.1)
  pub apart : (n : ℕ) → Contains me.0.seats.others n → n ≢ number
  pub reader : pin_place me.0.seats.readers < all_places
  pub unused : by number me.0.seats.history ≡ []
  pub legal : Legal m me.0.seats.about me.0.seats.history

-- the seat read what it was told
pub record HasRead {S A R F : Type 0} (m : Meaning S A R) (step : Step F) (me : Me F (CellView S A R)) (found : ℕ) (next : Me F (CellView S A R)) : Type 0 where
  pub history : List (Entry S A R)
  pub is : next ≡ (record me.0 { seats = record me.0.seats { history = history; joined = me.0.seats.theirs ++ me.0.seats.joined; told = []; theirs = [] } }, me.1)
  pub longer : (history ≡ me.0.seats.history) ⊎ (history ≡ me.0.seats.told)
  pub mine : IsPrefix me.0.seats.history history
  pub theirs : IsPrefix me.0.seats.told history
  pub own : by me.0.seats.number history ≡ by me.0.seats.number me.0.seats.history
  pub kept : (n : ℕ) → Contains me.0.seats.joined n → by n history ≡ by n me.0.seats.history
  pub listed : (n : ℕ) → Contains me.0.seats.theirs n → by n history ≡ by n me.0.seats.told
  pub apart : (n : ℕ) → Contains me.0.seats.theirs n → n ≢ me.0.seats.number
  pub legal : Legal m me.0.seats.about history
  pub most : length me.0.seats.readers ≤ all_places
  pub epoch : me.0.epochs.greatest ≤ last_epoch
  pub sole : length me.0.seats.readers ≡ all_places → (n : ℕ) → (by n history ≡ []) ⊎ IsOwn (cell_pass next.0) n
