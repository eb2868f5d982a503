-- What the rule says of the trie, of any pass: who holds a key, and that what a pass loaded isn't used for anything else while it may rest on it.
use Rattle.std.specs.Prelude.{◌≡◌, ℕ, Some, Contains}
use mathlib.Core.Option.{some}
use lib.ListN.{get_elem?}
use Rattle.atomic_table.specs.Table.{State}
use Rattle.npf_types.specs.declared.key.Key.{Key}
use Rattle.npf_core.specs.History.{state_of}
use Rattle.npf_core.specs.Machine.{stage_of, IsClaimed}
use Rattle.npf_core.specs.Meaning.{Meaning}
use Rattle.npf_paths.specs.declared.place.Place.{Place}
use Rattle.npf_paths.specs.declared.place.Place.TheVariants as Places
use Rattle.npf_paths.specs.Paths.{EndsAt}
use Rattle.npf_cells_words.specs.declared.layout.Layout.{Layout}
use Rattle.npf_cells_leaves.specs.declared.trie.LoadedLeaf.{LoadedLeaf}
use Rattle.npf_cells_leaves.specs.declared.trie.PathPlace.{PathPlace}
use Rattle.npf_cells_leaves.specs.Trie.{digits_of, trie_words, holder_at}
use Rattle.npf_cells_lives.specs.Turns.{Running}
use Rattle.npf_cells_rule.specs.declared.view.CellView.{CellView}
use Rattle.npf_cells_rule.specs.Cells.{IsCells}

-- what stands where a key's path ends names the key's holder after the history
abbrev pub EndsNameHolders : {S A R : Type 0} → Meaning S A R → Layout → Type 0
EndsNameHolders {S} {A} {R} m layout =
    (digest : Key → ℕ) (s : State (Running S) (CellView S A R)) (kept : IsCells m digest layout s) (key : Key) (level : ℕ) (p : Place) → EndsAt (digits_of digest key) (trie_words layout s.words).cell level p →
    (state_of m kept.log).holder key ≡ holder_at (trie_words layout s.words) ((trie_words layout s.words).cell p) key

-- the words of a leaf that a pass loaded in its stay are as they were, and its connection is claimed
pub record IsLeafKept {S A R : Type 0} (m : Meaning S A R) (digest : Key → ℕ) (layout : Layout) (s : State (Running S) (CellView S A R)) (kept : IsCells m digest layout s) (leaf : LoadedLeaf) : Type 0 where
  pub key : (trie_words layout s.words).key leaf.slot leaf.way ≡ leaf.key
  pub inc : (trie_words layout s.words).inc leaf.slot ≡ leaf.inc
  pub claimed : IsClaimed (stage_of (state_of m kept.log) (record { slot = leaf.slot; inc = leaf.inc }))

abbrev pub LeavesAreKept : {S A R : Type 0} → Meaning S A R → Layout → Type 0
LeavesAreKept {S} {A} {R} m layout =
    (digest : Key → ℕ) (s : State (Running S) (CellView S A R)) (kept : IsCells m digest layout s) (j : ℕ) (v : CellView S A R) (leaf : LoadedLeaf) →
    get_elem? s.views j ≡ some v → v.trie.leaf ≡ Some leaf → IsLeafKept m digest layout s kept leaf

-- the node in which a pass stands is no pass's own
abbrev pub NodesAreKept : {S A R : Type 0} → Meaning S A R → Layout → Type 0
NodesAreKept {S} {A} {R} m layout =
    (digest : Key → ℕ) (s : State (Running S) (CellView S A R)) (i j node digit : ℕ) (u v : CellView S A R) (point : PathPlace) → IsCells m digest layout s →
    get_elem? s.views i ≡ some u → get_elem? s.views j ≡ some v → v.trie.stands ≡ Some point → point.place ≡ Places.Node node digit → ¬ (Contains u.pools.nodes node)
