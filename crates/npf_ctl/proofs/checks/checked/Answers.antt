use Rattle.std.proofs.Common.{rules, ◌≡◌, Err}
use Rattle.npf_ctl.specs.Checks.{RefusesExpectationText}
use Rattle.npf_ctl.proofs.checks.checked.Goals as goal

pub returns-in_err-asked-clause-err : goal.returns-in_err-asked-clause-err
returns-in_err-asked-clause-err c =
    let same : c.from_residual.result ≡ Err c.in_err-asked.field-0.0 = search rules in
    rw same (RefusesExpectationText.read c.in_err-asked.ensures.err)

pub returns-in_err-told-clause-err : goal.returns-in_err-told-clause-err
returns-in_err-told-clause-err c =
    let same : c.from_residual-in_err-told.result ≡ Err c.in_err-told.field-0.0 = search rules in
    rw same (RefusesExpectationText.spent c.in_err-told.ensures.err)
