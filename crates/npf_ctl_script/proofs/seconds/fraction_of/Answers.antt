use Rattle.std.{proofs.Common.{ℕ, ◌*◌, ◌<◌, subst, sym, arith}, specs.Str.Parse.digits_value}
use Rattle.npf_ctl_script.proofs.NumberLemmas.{below_second, fraction_fits}
use Rattle.npf_ctl_script.proofs.seconds.fraction_of.Goals as goal

pub returns-in_default-numeral_of-clause-value : goal.returns-in_default-numeral_of-clause-value
returns-in_default-numeral_of-clause-value c = λ nanoseconds h.
    c.in_default-numeral_of.ensures (digits_value 10 c.args.digits.now) (fraction_fits c.args.digits.now nanoseconds h)

pub overflow_mul-result : goal.overflow_mul-result
overflow_mul-result c =
    let number = c.in-Some-numeral_of.number in
    let below : number * c.scale.result < 1000000000 = subst (λ (s : ℕ). number * s < 1000000000) (sym c.scale.ensures)
    (below_second c.args.digits.now number c.in-Some-numeral_of.ensures.reads c.if-digits-gt-MAX_DIGITS.false) in
    omega (arith, below)

pub returns-clause-most : goal.returns-clause-most
returns-clause-most c =
    let number = c.in-Some-numeral_of.number in
    subst (λ (s : ℕ). number * s < 1000000000) (sym c.scale.ensures)
    (below_second c.args.digits.now number c.in-Some-numeral_of.ensures.reads c.if-digits-gt-MAX_DIGITS.false)
