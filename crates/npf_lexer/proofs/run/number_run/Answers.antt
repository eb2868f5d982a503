use Rattle.std.{proofs.{Common.{◌^◌, ◌<◌, subst}, lemmas.Str.IsUtf8-from_ascii}, specs.Str.Parse.{IsNumeral, digits_value, without_leading_plus}}
use Rattle.std.proofs.lemmas.Fmt.{IsAscii-from_digits}
use Rattle.npf_lexer.proofs.RunLemmas.{decimal_digits, decimal_too_large}
use Rattle.npf_lexer.proofs.run.number_run.Goals as goal

pub returns-in_default : goal.returns-in_default
returns-in_default c = absurd (c.in_default.ensures.cases.0 (IsUtf8-from_ascii c.args.run.now (IsAscii-from_digits c.args.run.now (decimal_digits c.args.run.now c.requires))))

pub returns-in-Err : goal.returns-in-Err
returns-in-Err c = decimal_too_large c.args.run.now c.requires
    (subst (λ ds. ¬ (IsNumeral 10 (without_leading_plus ds) × (digits_value 10 (without_leading_plus ds) < 2 ^ 32))) c.in-Ok.ensures.cases.0 c.in-Err.ensures.value.0)
