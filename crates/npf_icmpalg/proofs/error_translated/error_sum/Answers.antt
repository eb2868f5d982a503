use Rattle.std.proofs.Common.{◌+◌, ◌++◌, ap, ◌∙◌}
use Rattle.npf_packet.specs.Field.{icmp_checksum}
use Rattle.npf_rewrite.specs.{Sum.sum_after, Word.{word, word_list}}
use Rattle.npf_icmpalg.{specs.{ErrorTranslated.counted_outer, Header.header_addresses, Within.port_words}, proofs.SumLemmas.sum_after_both}
use Rattle.npf_icmpalg.proofs.error_translated.error_sum.Goals as goal

pub returns-clause-value : goal.returns-clause-value
returns-clause-value c =
    let bytes = c.args.bytes.now in
    let outer = counted_outer c.args.outer.now.family c.args.outer.now in
    let named = header_addresses c.args.quoted.now.header ++ port_words c.args.quoted.now in
    let header = word_list c.args.sums.now.header in
    let upper = word_list c.args.sums.now.upper in
    let first = c.sum_after_outer-sum.result in
    let second = c.sum_after_quoted-sum.result in
    let third = c.sum_after_named-sum.result in
    let last = c.sum_after_named-value.result in
    let with_header = sum_after_both 0 bytes named header first second third c.sum_after_quoted-sum.ensures
    c.sum_after_named-sum.ensures in
    let quoted = sum_after_both 0 bytes (named ++ header) upper first third last with_header
    c.sum_after_named-value.ensures in
    let whole = sum_after_both 0 bytes outer (named ++ header ++ upper) c.get16.result first last
    c.sum_after_outer-sum.ensures quoted in
    ap (word (c.args.l4_at + icmp_checksum))
    (whole ∙ ap (sum_after 0 bytes (outer ++ (named ++ header ++ upper))) c.get16.ensures)
