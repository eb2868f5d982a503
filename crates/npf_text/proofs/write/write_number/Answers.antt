use Rattle.std.proofs.{Common.refl, lemmas.Fmt.decimal_digit}
use Rattle.npf_text.proofs.write.write_number.Goals as goal

pub returns-then-number-lt10 : goal.returns-then-number-lt10
returns-then-number-lt10 c = rw (c.in_ok-push.ensures.items, decimal_digit c.args.number c.if-number-lt10.true) refl
