use Rattle.std.{proofs.Common.{◌≡◌, List, ℕ, rules, refl, sym, ap, subst, ◌∙◌}, specs.{Fmt.decimal, Result.result_unwrap_or, Str.{IsAscii, IsUtf8}}}
use Rattle.std.proofs.lemmas.{Fmt.{IsAscii-decimal, parse-decimal}, Str.IsUtf8-from_ascii}
use Rattle.npf_saved.proofs.words.guess_number.Goals as goal

pub returns-in_default : goal.returns-in_default
returns-in_default c = λ n fits is. absurd (c.in_default.ensures.cases.0 (subst IsUtf8 (sym is) (IsUtf8-from_ascii (decimal n) (IsAscii-decimal n fits))))

pub returns : goal.returns
returns c = λ n fits is.
    let same : c.in-Ok.text.now ≡ c.args.word.now = search rules in
    let read = c.parse.ensures.value in
    c.unwrap_or.ensures ∙ ap (λ parsed. result_unwrap_or parsed 0) (parse-decimal 64 n c.in-Ok.text.now c.parse.result fits fits (same ∙ is) read.0)
