use Rattle.std.proofs.Common.{◌≡◌, Err, refl, rules}
use Rattle.npf_types.specs.Stages.{goes_on, stops}
use Rattle.npf_ctl_prepare.proofs.configurations.add_rule.Goals as goal

pub returns-in_err-next-clause-err : goal.returns-in_err-next-clause-err
returns-in_err-next-clause-err c =
    let same : c.from_residual.result ≡ Err c.in_err-next.field-0.0 = search rules in
    rw same (λ real. stops (c.in_err-next.ensures.err real))

pub returns-clause-ok : goal.returns-clause-ok
returns-clause-ok c = goes_on c.in_ok-next.ensures.ok refl

pub returns-clause-loaded : goal.returns-clause-loaded
returns-clause-loaded c = c.in_ok-next.ensures.loaded c.requires.last.loaded
