use Rattle.std.proofs.Common.{◌++◌, ap, ◌∙◌}
use Rattle.npf_rewrite.{specs.{Normalised.{raised_ttl, segment_sum}, Translated.header_sum, Word.word_list}, proofs.WordLemmas.{rewrites_as, rewrites_both}}
use Rattle.npf_rewrite.proofs.normalised.normalize.Goals as goal

pub returns : goal.returns
returns c =
    let bytes = c.args.bytes.now in
    let facts = c.args.facts.now in
    let ttl = c.raised_ttl-ttl.ensures in
    let fragment = c.cleared_fragment-fragment.ensures in
    let mss = c.lowered_mss-mss.ensures.value in
    let sum = header_sum bytes facts.ip_at facts.src in
    let raised = raised_ttl bytes facts.ip_at facts.src c.args.action.now.min_ttl in
    let header = c.header_sum-header.ensures
    ∙ ap (λ t. sum (word_list t ++ word_list c.cleared_fragment-fragment.result)) ttl
    ∙ ap (λ f. sum (word_list raised ++ word_list f)) fragment in
    let segment = c.segment_sum-segment.ensures ∙ ap (segment_sum bytes facts.l4_at) mss in
    let one = rewrites_as _ _ _ _ (ap word_list ttl) c.write_named.ensures in
    let two = rewrites_as _ _ _ _ (ap word_list fragment) c.write_named-2.ensures in
    let three = rewrites_as _ _ _ _ (ap word_list mss) c.write_named-3.ensures in
    let four = rewrites_as _ _ _ _ (ap word_list header) c.write_named-4.ensures in
    let five = rewrites_as _ _ _ _ (ap word_list segment) c.write_named-5.ensures in
    rewrites_both _ _ _ _ _
    (rewrites_both _ _ _ _ _
    (rewrites_both _ _ _ _ _ (rewrites_both _ _ _ _ _ one two) three) four) five
