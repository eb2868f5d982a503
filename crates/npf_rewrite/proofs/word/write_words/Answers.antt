use Rattle.npf_rewrite.{specs.Word.word, proofs.WordLemmas.{rewrites_next, within_next}}
use Rattle.npf_rewrite.proofs.word.write_words.Goals as goal

pub loop-word-preserved : goal.loop-word-preserved
loop-word-preserved c = record {
  within = within_next c.loop-word.bytes c.write_word.new.bytes c.args.words.now
      c.loop-word.word-index (word 0 0) c.loop-word-test.true c.write_word.ensures.size
      c.loop-word.invariant.within;
  onward = λ new rest. c.loop-word.invariant.onward new
      (rewrites_next c.loop-word.bytes c.write_word.new.bytes c.args.words.now
      c.loop-word.word-index (word 0 0) c.loop-word-test.true c.write_word.ensures new rest);
}
