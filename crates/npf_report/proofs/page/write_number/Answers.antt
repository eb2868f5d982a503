use Rattle.std.proofs.{Common.arith, lemmas.Fmt.length-decimal-le}
use Rattle.npf_report.proofs.page.write_number.Goals as goal

pub write_digits-requires : goal.write_digits-requires
write_digits-requires c = (omega (arith, c.requires.room, length-decimal-le 20 c.args.number (omega arith) (omega arith) (omega arith)), c.requires.within)

pub returns-clause-short : goal.returns-clause-short
returns-clause-short c = omega (arith, c.write_digits.ensures.start, length-decimal-le 20 c.args.number (omega arith) (omega arith) (omega arith))
