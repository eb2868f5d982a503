use Rattle.std.proofs.Common.{arith}
use Rattle.npf_show.specs.Filter.{letter_if_set, letters_of_bits}
use Rattle.npf_witness.proofs.NameLemmas.{one_more}
use Rattle.npf_witness.proofs.witness.write_letters.Goals as goal

pub loop-letter-preserved : goal.loop-letter-preserved
loop-letter-preserved c =
    one_more _ (letter_if_set c.args.flags) letters_of_bits c.loop-letter.letter-index (0, 0) (omega (arith, c.loop-letter-test.true))
    c.loop-letter.invariant c.in_ok-write_letter.ensures
