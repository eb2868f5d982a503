use Rattle.std.proofs.Common.{◌≡◌, Err, rules}
use Rattle.npf_ctl_messages.specs.declared.fault.CommandFault.TheVariants.{NoMemory}
use Rattle.npf_ctl_check.specs.Reading.{RefusesLine}
use Rattle.npf_ctl_check.proofs.lines.read_line.Goals as goal

pub returns-in_err-text_of-clause-err : goal.returns-in_err-text_of-clause-err
returns-in_err-text_of-clause-err c =
    let same : c.from_residual.result ≡ Err NoMemory = search rules in
    rw same RefusesLine.memory

pub returns-in_default-clause-err : goal.returns-in_default-clause-err
returns-in_default-clause-err c = rw c.in_ok-text_of.ensures (RefusesLine.bad (rw c.in_default.is at c.said_by.ensures))

pub returns-in_err-told_at-in-Err-clause-err : goal.returns-in_err-told_at-in-Err-clause-err
returns-in_err-told_at-in-Err-clause-err c =
    let same : c.from_residual-in_err-told_at-in-Err.result ≡ Err NoMemory = search rules in
    rw same RefusesLine.memory

pub returns-in_ok-told_at-in-Err-clause-err : goal.returns-in_ok-told_at-in-Err-clause-err
returns-in_ok-told_at-in-Err-clause-err c =
    let said = c.in-Some.said in
    rw c.in_ok-told_at-in-Err.ensures
    (RefusesLine.class said.amount said.wanted said.class.now c.in-Err.fault (rw c.in-Some.is at c.said_by.ensures) c.in-Err.ensures.err)
