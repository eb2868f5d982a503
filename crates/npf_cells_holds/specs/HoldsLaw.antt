-- That each of these steps keeps the rule, and tells what it says, whatever else passes do.
use Rattle.npf_cells_leaves.specs.Sights.{SeesLocked}
use Rattle.std.specs.List.{Contains}
use Rattle.std.specs.Prelude.{[], eqb, length, true, ℕ, ◌+◌, ◌<◌, ◌≡◌, ◌≢◌, ◌≤◌}
use prog.Atomic.{either}
use Rattle.atomic_table.specs.Table.{Allows, Me, Step}
use Rattle.npf_types.specs.declared.key.Key.{Key}
use Rattle.npf_types.specs.declared.key.Way.{Way}
use Rattle.npf_core.specs.declared.conn_id.ConnId.{ConnId}
use Rattle.npf_core.specs.Meaning.{Meaning}
use Rattle.npf_paths.specs.declared.cell.Cell.{Cell}
use Rattle.npf_paths.specs.declared.cell.Cell.TheVariants.{Mark}
use Rattle.npf_paths.specs.declared.place.Lock.{Lock}
use Rattle.npf_paths.specs.declared.place.Place.{Place}
use Rattle.npf_paths.specs.CellWords.{cell_word}
use Rattle.npf_paths.specs.Paths.{IsEnd}
use Rattle.npf_cells_words.specs.declared.layout.Layout.{Layout}
use Rattle.npf_cells_words.specs.declared.layout.Pool.TheVariants.{Slots}
use Rattle.npf_cells_words.specs.Layout.{field_at, key_field}
use Rattle.npf_cells_words.specs.Places.{IsInTrie, IsLockOf, lock_at, place_at}
use Rattle.npf_cells_rule.specs.declared.view.CellView.{CellView}
use Rattle.npf_cells_rule.specs.Cells.{IsCells}
use Rattle.npf_cells_rule.specs.Passes.{IsProtected}
use Rattle.npf_cells_holds.specs.HoldKinds.{LoadsForHold, MayHoldSo}
use Rattle.npf_cells_holds.specs.LockKinds.{MayStoreState, StoresState, TriesLock}
use Rattle.npf_cells_holds.specs.LookKinds.{LoadsKey, LoadsPlace, StandsOnPath}
use Rattle.npf_cells_holds.specs.PublishKinds.{IsUnmarkedPlace, MayPublishFor, PublishesFor, StoresAgain}
use Rattle.npf_cells_holds.specs.UnlinkKinds.{MayUnlink, Unlinks}
use Rattle.npf_cells_lives.specs.Turns.{Running}

-- the steps on the places of the trie, on locks and on keys keep the rule, and tell what they say
pub record KeepsHolds {S A R : Type 0} (m : Meaning S A R) (digest : Key → ℕ) (layout : Layout) : Type 0 where
  pub looks : (st : Step (Running S)) (id n packet : ℕ) (key : Key) (p : Place) (me : Me (Running S) (CellView S A R)) → IsInTrie layout p → me.0.seats.lives ≡ true → me.0.seats.theirs ≡ [] → 1 ≤ length me.0.seats.readers → IsProtected me.0.epochs.pin → StandsOnPath digest me.0.trie key p → Allows (IsCells m digest layout) n id me (place_at layout p) (λ x. x) (LoadsPlace m digest layout packet key p st me)
  pub loads_key : (st : Step (Running S)) (id n slot : ℕ) (way : Way) (place : ℕ) (me : Me (Running S) (CellView S A R)) → me.0.seats.lives ≡ true → 1 ≤ length me.0.seats.readers → place < 5 → Allows (IsCells m digest layout) n id me (field_at layout Slots slot (key_field way + place)) (λ x. x) (LoadsKey m digest layout slot way place st me)
  pub loads_for_hold : (st : Step (Running S)) (id n : ℕ) (conn : ConnId) (key : Key) (way : Way) (p : Place) (me : Me (Running S) (CellView S A R)) → IsInTrie layout p → me.0.seats.lives ≡ true → me.0.seats.theirs ≡ [] → 1 ≤ length me.0.seats.readers → IsProtected me.0.epochs.pin → StandsOnPath digest me.0.trie key p → MayHoldSo m me.0 conn way → Allows (IsCells m digest layout) n id me (place_at layout p) (λ x. x) (LoadsForHold m digest layout conn key way p st me)
  pub tries_lock : (st : Step (Running S)) (id n : ℕ) (lock : Lock) (me : Me (Running S) (CellView S A R)) → me.0.seats.lives ≡ true → 1 ≤ length me.0.seats.readers → IsProtected me.0.epochs.pin → IsLockOf layout lock → Allows (IsCells m digest layout) n id me (lock_at layout lock) (λ x. either (eqb x 0) 1 x) (TriesLock m digest layout lock st me)
  pub stores_state : (st : Step (Running S)) (id n : ℕ) (lock : Lock) (state : ℕ) (me : Me (Running S) (CellView S A R)) → 1 ≤ length me.0.seats.readers → IsLockOf layout lock → Contains me.0.trie.locks lock → MayStoreState me.0 lock state → Allows (IsCells m digest layout) n id me (lock_at layout lock) (λ _. state) (λ _. StoresState layout lock state st me state)
  pub stores_again : (st : Step (Running S)) (id n : ℕ) (p : Place) (cell : Cell) (me : Me (Running S) (CellView S A R)) → 1 ≤ length me.0.seats.readers → IsInTrie layout p → SeesLocked me.0.trie p cell → IsEnd cell → cell ≢ Mark → IsUnmarkedPlace me.0.trie.marks p → Allows (IsCells m digest layout) n id me (place_at layout p) (λ _. cell_word cell) (λ _. StoresAgain st me (cell_word cell))
  pub publishes : (st : Step (Running S)) (id n : ℕ) (conn : ConnId) (key : Key) (way : Way) (p : Place) (cell : Cell) (me : Me (Running S) (CellView S A R)) → IsInTrie layout p → me.0.seats.lives ≡ true → me.0.seats.theirs ≡ [] → 1 ≤ length me.0.seats.readers → IsProtected me.0.epochs.pin → MayPublishFor m digest layout me.0 conn key way p cell → Allows (IsCells m digest layout) n id me (place_at layout p) (λ _. cell_word cell) (λ _. PublishesFor m digest layout conn key way p cell st me (cell_word cell))
  pub unlinks : (st : Step (Running S)) (id n : ℕ) (conn : ConnId) (way : Way) (p : Place) (me : Me (Running S) (CellView S A R)) → IsInTrie layout p → me.0.seats.lives ≡ true → me.0.seats.theirs ≡ [] → 1 ≤ length me.0.seats.readers → MayUnlink me.0 p conn way → Allows (IsCells m digest layout) n id me (place_at layout p) (λ _. 0) (λ _. Unlinks m conn way p st me 0)
