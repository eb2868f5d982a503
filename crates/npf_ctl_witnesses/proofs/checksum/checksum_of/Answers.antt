use Rattle.std.proofs.Common.{◌∙◌, ◌+◌, ◌<◌, ◌^◌, ap, get_or, arith}
use Rattle.npf_ctl_witnesses.proofs.ChecksumLemmas.{in_word-small, pairs_more}
use Rattle.npf_ctl_witnesses.proofs.checksum.checksum_of.Goals as goal

pub loop-place-preserved : goal.loop-place-preserved
loop-place-preserved c =
    let bytes = c.args.bytes.now in
    let i = c.loop-place.place in record {
      summed = ap (λ n. c.loop-place.total + n) c.in_word-total.ensures ∙ pairs_more bytes i c.loop-place.total (omega (arith, c.loop-place-test.true)) c.loop-place.invariant.summed;
      small = let byte : get_or bytes i 0 < 2 ^ 8 = (c.type_inv.bytes i).fits in omega (arith, c.in_word-total.ensures, in_word-small i (get_or bytes i 0) byte);
    }
