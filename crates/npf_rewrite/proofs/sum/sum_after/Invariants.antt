use Rattle.std.proofs.Common.{◌≡◌, drop, length}
use Rattle.npf_rewrite.specs.{Sum.sum_after, Word.AllWithin}
use Rattle.npf_rewrite.proofs.sum.sum_after.Given as goal

abbrev pub invariant-loop-word : goal.invariant-loop-word
invariant-loop-word l = record {
  within : AllWithin (length l.bytes) (drop l.word-index l.words);
  same : sum_after l.zero l.bytes (drop l.word-index l.words) l.adjusted
      ≡ sum_after l.zero l.bytes l.words l.sum;
}
