use Rattle.std.proofs.Common.{◌≡◌, slice_index}
use Rattle.npf_cells_words.specs.Layout.{key_field}
use Rattle.npf_cells.specs.Cells.{IsPassIn}
use Rattle.npf_trie.proofs.StoreLemmas.{KeyStoredBelow}
use Rattle.npf_trie.proofs.keys.store_key.Given as goal

abbrev pub invariant-loop-word : goal.invariant-loop-word
invariant-loop-word g l = record {
  own : IsPassIn l.cells l.pass;
  first_is : l.first ≡ key_field l.fn.way;
  below : KeyStoredBelow g.L.Law.meaning l.cells.table.shared.key l.slot l.fn.way (λ i. slice_index l.key.0 i) l.initial.pass.seat.me l.word l.pass.seat.me;
}
