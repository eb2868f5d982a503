use Rattle.std.proofs.Common.{ap}
use Rattle.npf_rewrite.specs.{Address.end_words, Translated.{destination_at, source_at}}
use Rattle.npf_icmpalg.proofs.SumLemmas.{sum_after_as, sum_after_both}
use Rattle.npf_icmpalg.proofs.header.sum_after_addresses.Goals as goal

pub returns : goal.returns
returns c =
    let zero = c.args.zero in
    let bytes = c.args.bytes.now in
    let header = c.args.header.now in
    let src = end_words (source_at header.ip_at header.family) header.src in
    let dst = end_words (destination_at header.ip_at header.family) header.dst in
    let first = c.sum_after_end-sum.result in
    let one = sum_after_as zero bytes (end_words c.source_at.result header.src) src c.args.sum first
    (ap (λ at. end_words at header.src) c.source_at.ensures.value) c.sum_after_end-sum.ensures in
    let two = sum_after_as zero bytes (end_words c.destination_at.result header.dst) dst first c.sum_after_end.result
    (ap (λ at. end_words at header.dst) c.destination_at.ensures.value) c.sum_after_end.ensures in
    sum_after_both zero bytes src dst c.args.sum first c.sum_after_end.result one two
