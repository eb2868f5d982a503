use Rattle.std.proofs.Common.{ℕ, List, drop, length}
use Rattle.npf_rewrite.specs.Word.{AllWithin, Rewrites}
use Rattle.npf_rewrite.proofs.word.write_words.Given as goal

abbrev pub invariant-loop-word : goal.invariant-loop-word
invariant-loop-word l = record {
  within : AllWithin (length l.bytes) (drop l.word-index l.words);
  onward : (new : List ℕ) → Rewrites l.bytes (drop l.word-index l.words) new
      → Rewrites l.initial.bytes l.words new;
}
