use Rattle.std.proofs.Common.{arith}
use Rattle.npf_show.{specs.Filter.{letter_if_set, letters_of_bits}, proofs.PageLemmas.one_more}
use Rattle.npf_show.proofs.page.Page.glued_flags.Goals as goal

pub loop-letter-preserved : goal.loop-letter-preserved
loop-letter-preserved c =
    one_more _ (letter_if_set c.args.bits) letters_of_bits c.loop-letter.letter-index (0, 0) (omega (arith, c.loop-letter-test.true))
    c.loop-letter.invariant c.in_ok-letter.ensures
