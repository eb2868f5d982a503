use Rattle.std.proofs.Common.{◌≡◌, ◌+◌, ◌<◌, ℕ, Some, slice_index}
use Rattle.npf_cells_leaves.specs.declared.trie.LoadedLeaf.{LoadedLeaf}
use Rattle.npf_cells_holds.specs.LookKinds.{IsLeafOf}
use Rattle.npf_cells_rule.specs.Views.{with_trie}
use Rattle.npf_cells.specs.Cells.{IsPassIn}
use Rattle.npf_trie.proofs.looks.holder_of.Given as goal

-- the pass loaded the words before this one, and they agree
abbrev pub invariant-loop-word : goal.invariant-loop-word
invariant-loop-word g l = record {
  own : IsPassIn l.cells l.pass;
  leaf : IsLeafOf l.pass.seat.me.0.trie l.slot l.way;
  read : l.pass.seat.me ≡ with_trie l.initial.pass.seat.me (record l.initial.pass.seat.me.0.trie { words = l.initial.pass.seat.me.0.trie.words + l.word });
  same : (leaf : LoadedLeaf) → l.initial.pass.seat.me.0.trie.leaf ≡ Some leaf → (k : ℕ) → k < l.word → slice_index leaf.key.0 k ≡ slice_index l.key.0 k;
}
