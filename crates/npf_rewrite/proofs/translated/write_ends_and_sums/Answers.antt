use Rattle.std.proofs.Common.{ap}
use Rattle.npf_rewrite.{specs.Word.word_list, proofs.WordLemmas.{rewrites_as, rewrites_both}}
use Rattle.npf_rewrite.proofs.translated.write_ends_and_sums.Goals as goal

pub returns : goal.returns
returns c =
    let header = rewrites_as _ _ _ _ (ap word_list c.header_sum-header.ensures)
    c.write_named.ensures in
    let upper = rewrites_as _ _ _ _ (ap word_list c.upper_sum-upper.ensures)
    c.write_named-2.ensures in
    rewrites_both _ _ _ _ _ c.write_ends.ensures (rewrites_both _ _ _ _ _ header upper)
