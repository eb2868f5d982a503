use Rattle.std.proofs.Common.{◌≡◌, ◌∙◌, ℕ, Option, Some, None, Ok, Err, List, ap, length, rules, subst, sym}
use Rattle.npf_types.specs.Stages.{stops, goes_on}
use Rattle.npf_traffic.specs.declared.{packet.Packet.Packet, phase.Phase.Phase}
use Rattle.npf_ctl_aging.specs.Aging.{aged}
use Rattle.npf_ctl_messages.specs.declared.fault.Quantity.TheVariants.{Expiries}
use Rattle.npf_ctl_schedule.specs.Schedule.{phases_of, unnumbered}
use Rattle.npf_ctl_prepare.{specs.Prepares.{HasFew, Schedules, run_phases}, proofs.StageLemmas.told_unless}
use Rattle.npf_ctl_prepare.proofs.phases.run_phases.Goals as goal

pub returns-in_err-few-clause-comes : goal.returns-in_err-few-clause-comes
returns-in_err-few-clause-comes c =
    let fault = c.in_err-few.field-0.0 in
    let same : c.from_residual.result ≡ Err fault = search rules in
    rw same (told_unless (λ other. Schedules c.args.every (unnumbered c.args.lines.now) c.args.packets.now (Err other)) fault
    (λ real. stops (subst (λ n. HasFew Expiries n (Err fault)) c.expiries.ensures c.in_err-few.ensures.stage)))

pub returns-in_ok-parts-in-Some-clause-comes : goal.returns-in_ok-parts-in-Some-clause-comes
returns-in_ok-parts-in-Some-clause-comes c =
    let lines = unnumbered c.args.lines.now in
    let packets = c.args.packets.now in
    let few = subst (λ n. HasFew Expiries n (Ok tt)) c.expiries.ensures c.in_ok-few.ensures.stage in
    let parts : c.in_ok-parts-in-Some.parts.items ≡ run_phases (Some c.in-Some.seconds) lines packets =
    c.in_ok-parts-in-Some.ensures ∙ ap (aged c.in-Some.seconds packets) c.in_ok-phases.ensures in
    goes_on few (ap Ok (parts ∙ ap (λ (every : Option ℕ). run_phases every lines packets) (sym c.in-Some.is)))

pub returns-in-None-clause-comes : goal.returns-in-None-clause-comes
returns-in-None-clause-comes c =
    let lines = unnumbered c.args.lines.now in
    let packets = c.args.packets.now in
    let few = subst (λ n. HasFew Expiries n (Ok tt)) c.expiries.ensures c.in_ok-few.ensures.stage in
    let phases : c.in_ok-phases.phases.items ≡ run_phases None lines packets = c.in_ok-phases.ensures in
    goes_on few (ap Ok (phases ∙ ap (λ (every : Option ℕ). run_phases every lines packets) (sym c.in-None.is)))
