use Rattle.std.{proofs.Common.{◌<◌, ◌^◌, ℕ, lit≤, arith}, specs.Fmt.decimal}
use Rattle.npf_saved.proofs.{GuessLemmas.{dash_is_none, no_dash}, WordLemmas.decimal_lacks}
use Rattle.npf_saved.proofs.words.guess_optional_size.Goals as goal

pub returns-then-is_dash-clause-value : goal.returns-then-is_dash-clause-value
returns-then-is_dash-clause-value c = dash_is_none (λ (n : ℕ). n < 2 ^ 16) decimal (λ n fits. no_dash (decimal n) (decimal_lacks 45 n (omega (arith, fits)) (lit≤ tt)))
    c.args.word.now (c.is_dash.ensures.0 c.if-is_dash.true)
