use Rattle.std.proofs.Common.{◌≡◌, ◌≤◌, Err, List, ap, length, rules, subst}
use Rattle.npf_types.specs.declared.limits.TheConstants.{MAX_INTERFACES}
use Rattle.npf_model.specs.declared.iface.Iface.{Iface}
use Rattle.npf_ctl_schedule.specs.Schedule.{unnumbered}
use Rattle.npf_ctl_prepare.proofs.{LimitLemmas.{captures_over, changes_over, interfaces_over, kept, phases_over}, LineLemmas.all_known}
use Rattle.npf_ctl_prepare.proofs.limits.keep_limits.Goals as goal

pub returns-in_err-few-clause-comes : goal.returns-in_err-few-clause-comes
returns-in_err-few-clause-comes c =
    let fault = c.in_err-few.field-0.0 in
    let same : c.from_residual.result ≡ Err fault = search rules in
    rw same (captures_over c.args.given.list (unnumbered c.args.lines.now) c.captures_in.result c.captures_in.ensures fault c.in_err-few.ensures.stage)

pub returns-in_err-few-2-clause-comes : goal.returns-in_err-few-2-clause-comes
returns-in_err-few-2-clause-comes c =
    let fault = c.in_err-few-2.field-0.0 in
    let same : c.from_residual-in_err-few-2.result ≡ Err fault = search rules in
    rw same (phases_over c.args.given.list (unnumbered c.args.lines.now) c.captures_in.result c.captures_in.ensures c.in_ok-few.ensures.stage
    c.phases_in.result c.phases_in.ensures fault c.in_err-few-2.ensures.stage)

pub returns-in_err-few-3-clause-comes : goal.returns-in_err-few-3-clause-comes
returns-in_err-few-3-clause-comes c =
    let fault = c.in_err-few-3.field-0.0 in
    let same : c.from_residual-in_err-few-3.result ≡ Err fault = search rules in
    rw same (changes_over c.args.given.list (unnumbered c.args.lines.now) c.captures_in.result c.captures_in.ensures c.in_ok-few.ensures.stage
    c.phases_in.result c.phases_in.ensures c.in_ok-few-2.ensures.stage c.changes_in.result c.changes_in.ensures fault c.in_err-few-3.ensures.stage)

pub returns-in_err-few-4-clause-comes : goal.returns-in_err-few-4-clause-comes
returns-in_err-few-4-clause-comes c =
    let fault = c.in_err-few-4.field-0.0 in
    let same : c.from_residual-in_err-few-4.result ≡ Err fault = search rules in
    rw same (interfaces_over c.args.given.list (unnumbered c.args.lines.now) c.captures_in.result c.captures_in.ensures c.in_ok-few.ensures.stage
    c.phases_in.result c.phases_in.ensures c.in_ok-few-2.ensures.stage c.changes_in.result c.changes_in.ensures c.in_ok-few-3.ensures.stage
    c.in_ok-ifaces.ifaces.list c.in_ok-ifaces.ensures (length c.as_slice.result.now) (ap length c.as_slice.ensures) fault c.in_err-few-4.ensures.stage)

pub returns-clause-comes : goal.returns-clause-comes
returns-clause-comes c =
    kept c.args.given.list (unnumbered c.args.lines.now) c.captures_in.result c.captures_in.ensures c.in_ok-few.ensures.stage
    c.phases_in.result c.phases_in.ensures c.in_ok-few-2.ensures.stage c.changes_in.result c.changes_in.ensures c.in_ok-few-3.ensures.stage
    c.in_ok-ifaces.ifaces.list c.in_ok-ifaces.ensures (length c.as_slice.result.now) (ap length c.as_slice.ensures) c.in_ok-few-4.ensures.stage

pub returns-clause-known : goal.returns-clause-known
returns-clause-known c = all_known c.args.given.list c.in_ok-ifaces.ifaces.list c.args.lines.now c.in_ok-ifaces.ensures
    (subst (λ (list : List Iface). length list ≤ MAX_INTERFACES) c.as_slice.ensures c.in_ok-few-4.ensures.within)
