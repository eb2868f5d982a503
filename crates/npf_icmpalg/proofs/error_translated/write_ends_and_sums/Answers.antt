use Rattle.std.proofs.Common.{◌+◌, Option, [], ◌∷◌, ◌++◌, ap, ◌∙◌}
use Rattle.npf_fields.specs.Field.{number16}
use Rattle.npf_packet.specs.Field.{icmp_checksum}
use Rattle.npf_rewrite.{specs.{declared.word.WordAt.WordAt, Sum.sum_after, Word.{word, word_list}}, proofs.WordLemmas.{rewrites_as, rewrites_both}}
use Rattle.npf_icmpalg.specs.{ErrorTranslated.counted_outer, Header.header_addresses, Within.port_words}
use Rattle.npf_icmpalg.proofs.error_translated.write_ends_and_sums.Goals as goal

pub returns : goal.returns
returns c =
    let bytes = c.args.bytes.now in
    let outer = c.args.outer.now in
    let quoted = c.args.quoted.now in
    let sums = c.quoted_sums-sums in
    let at = c.args.l4_at + icmp_checksum in
    let told = λ (header upper : Option WordAt).
    word at (sum_after 0 bytes (counted_outer outer.family outer
    ++ (header_addresses quoted.header ++ port_words quoted ++ word_list header ++ word_list upper)) (number16 bytes at)) in
    let error_is = c.error_sum-error.ensures.value
    ∙ ap (λ header. told header sums.result.upper) sums.ensures.header
    ∙ ap (told _) sums.ensures.upper in
    let header = rewrites_as _ _ _ _ (ap word_list sums.ensures.header) c.write_named.ensures in
    let upper = rewrites_as _ _ _ _ (ap word_list sums.ensures.upper) c.write_named-2.ensures in
    let outer_header = rewrites_as _ _ _ _ (ap word_list c.header_sum-outer_header.ensures.value) c.write_named-3.ensures in
    let error = rewrites_as _ _ _ _ (ap (λ w. w ∷ []) error_is) c.write_word.ensures in
    rewrites_both _ _ _ _ _ c.write_ends.ensures
    (rewrites_both _ _ _ _ _ (rewrites_both _ _ _ _ _ (rewrites_both _ _ _ _ _ header upper) outer_header) error)
