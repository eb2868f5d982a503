use Rattle.std.proofs.Common.{ap}
use Rattle.npf_rewrite.{specs.{Address.end_words, Word.word_list}, proofs.WordLemmas.{rewrites_as, rewrites_both}}
use Rattle.npf_rewrite.proofs.translated.write_ends.Goals as goal

pub returns : goal.returns
returns c =
    let ends = c.args.ends.now in
    let one = rewrites_as _ _ _ _ (ap (λ at. end_words at ends.src) c.source_at.ensures.value)
    c.write_end.ensures in
    let two = rewrites_as _ _ _ _ (ap (λ at. end_words at ends.dst) c.destination_at.ensures.value)
    c.write_end-2.ensures in
    let three = rewrites_as _ _ _ _ (ap word_list c.source_write.ensures) c.write_named.ensures in
    let four = rewrites_as _ _ _ _ (ap word_list c.destination_write.ensures)
    c.write_named-2.ensures in
    rewrites_both _ _ _ _ _ (rewrites_both _ _ _ _ _ one two)
    (rewrites_both _ _ _ _ _ three four)
