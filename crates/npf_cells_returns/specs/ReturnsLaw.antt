-- That each of these steps keeps the rule, and tells what it says, whatever else passes do.
use Rattle.std.specs.Prelude.{◌≡◌, ℕ, ◌+◌, ◌^◌, ◌≤◌, ◌<◌, true, Contains, length}
use Rattle.atomic_table.specs.Table.{Allows, Me, Step}
use Rattle.npf_types.specs.declared.key.Key.{Key}
use Rattle.npf_core.specs.Meaning.{Meaning}
use Rattle.npf_paths.specs.declared.place.Lock.TheVariants as Locking
use Rattle.npf_paths.specs.declared.place.Place.{Place}
use Rattle.npf_paths.specs.Places.{lock_of}
use Rattle.npf_cells_words.specs.declared.layout.Layout.{Layout}
use Rattle.npf_cells_words.specs.declared.layout.Pool.TheVariants.{Nodes}
use Rattle.npf_cells_words.specs.Layout.{field_at, parent_field, state_field}
use Rattle.npf_cells_words.specs.MarkWords.{mark_word, marked_state}
use Rattle.npf_cells_words.specs.Places.{IsInTrie, lock_at, place_at}
use Rattle.npf_cells_lives.specs.Turns.{Running}
use Rattle.npf_cells_rule.specs.declared.view.CellView.{CellView}
use Rattle.npf_cells_rule.specs.Cells.{IsCells}
use Rattle.npf_cells_returns.specs.LoadKinds.{LoadsCell, LoadsParent, LoadsState}
use Rattle.npf_cells_returns.specs.MarkKinds.{FreesNode, MarksEmptied, MarksPlace, MayClearMark, MayMarkNode, MayMarkPlace, RegainsNode}

-- the steps by which nodes come back keep the rule, and tell what they say
pub record KeepsReturns {S A R : Type 0} (m : Meaning S A R) (digest : Key → ℕ) (layout : Layout) : Type 0 where
  pub loads_cell : (st : Step (Running S)) (id n : ℕ) (p : Place) (me : Me (Running S) (CellView S A R)) → 1 ≤ length me.0.seats.readers → me.0.seats.lives ≡ true → IsInTrie layout p → Contains me.0.trie.locks (lock_of p) → Allows (IsCells m digest layout) n id me (place_at layout p) (λ x. x) (LoadsCell m digest layout p st me)
  pub loads_parent : (st : Step (Running S)) (id n node : ℕ) (me : Me (Running S) (CellView S A R)) → 1 ≤ length me.0.seats.readers → me.0.seats.lives ≡ true → node < layout.nodes → Allows (IsCells m digest layout) n id me (field_at layout Nodes node parent_field) (λ x. x) (LoadsParent m digest layout node st me)
  pub loads_state : (st : Step (Running S)) (id n node : ℕ) (me : Me (Running S) (CellView S A R)) → 1 ≤ length me.0.seats.readers → me.0.seats.lives ≡ true → node < layout.nodes → Allows (IsCells m digest layout) n id me (field_at layout Nodes node state_field) (λ x. x) (LoadsState m digest layout node st me)
  pub marks_node : (st : Step (Running S)) (id n node : ℕ) (me : Me (Running S) (CellView S A R)) → 1 ≤ length me.0.seats.readers → node < layout.nodes → MayMarkNode layout me.0 node → Allows (IsCells m digest layout) n id me (lock_at layout (Locking.Node node)) (λ _. marked_state) (λ _. MarksEmptied st me marked_state)
  pub marks_place : (st : Step (Running S)) (id n node : ℕ) (p : Place) (me : Me (Running S) (CellView S A R)) → 1 ≤ length me.0.seats.readers → IsInTrie layout p → MayMarkPlace me.0 p node → Allows (IsCells m digest layout) n id me (place_at layout p) (λ _. mark_word node) (λ _. MarksPlace node st me (mark_word node))
  pub regains_node : (st : Step (Running S)) (id n node : ℕ) (p : Place) (me : Me (Running S) (CellView S A R)) → 1 ≤ length me.0.seats.readers → IsInTrie layout p → MayClearMark me.0 p node → Allows (IsCells m digest layout) n id me (place_at layout p) (λ _. 0) (λ _. RegainsNode p node st me 0)
  pub frees_node : (st : Step (Running S)) (id n node : ℕ) (me : Me (Running S) (CellView S A R)) → 1 ≤ length me.0.seats.readers → node < layout.nodes → Contains me.0.pools.unfreed node → Allows (IsCells m digest layout) n id me (lock_at layout (Locking.Node node)) (λ _. 0) (λ _. FreesNode node st me 0)
