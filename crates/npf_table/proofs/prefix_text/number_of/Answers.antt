use Rattle.std.proofs.lemmas.{Str.IsUtf8-from_ascii, Fmt.IsAscii-from_digits}
use Rattle.npf_table.proofs.prefix_text.number_of.Goals as goal

pub returns-in_default : goal.returns-in_default
returns-in_default c = λ n h. c.in_default.ensures.cases.0 (IsUtf8-from_ascii c.args.digits.now (IsAscii-from_digits c.args.digits.now h.numeral.1))
