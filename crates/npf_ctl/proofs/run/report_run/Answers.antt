use Rattle.std.proofs.Common.{rules, ◌≡◌, ◌∙◌, ℕ, List, Err, length, subst, sym}
use Rattle.npf_ctl_messages.specs.declared.fault.CommandFault.TheVariants.{NoMemory}
use Rattle.npf_outside.specs.Sink.{Appends, AppendsFront}
use Rattle.npf_ctl_output.{proofs.OutputLemmas.{are_outputs, counts_of_outputs, outputs_cross, same_report}, specs.Report.report_text}
use Rattle.npf_ctl.{specs.Ends.FailsReport, proofs.FileLemmas.nothing_put}
use Rattle.npf_ctl.proofs.run.report_run.Goals as goal

pub put_report-requires-clause-count : goal.put_report-requires-clause-count
put_report-requires-clause-count g c =
    let counts = counts_of_outputs _ _ _ (are_outputs _ _ _ _ _ _ _ _ _ c.in_ok-played.ensures.plays) in
    rw (c.as_slice.ensures, c.as_slice-2.ensures) (counts.0 ∙ sym counts.1)

pub put_report-requires-clause-interfaces : goal.put_report-requires-clause-interfaces
put_report-requires-clause-interfaces g c =
    rw c.as_slice.ensures
    (outputs_cross (length c.args.prepared.ifaces.list) _ _ _ (are_outputs _ _ _ _ _ _ _ _ _ c.in_ok-played.ensures.plays) c.requires.playable.crosses)

pub returns-in_err-played-clause-fails : goal.returns-in_err-played-clause-fails
returns-in_err-played-clause-fails g c =
    let same : c.from_residual.result ≡ Err NoMemory = search rules in
    rw same (FailsReport.unplayed (nothing_put (g.O.Sink.moment c.args.out.now)))

pub returns-in_err-put_report-clause-fails : goal.returns-in_err-put_report-clause-fails
returns-in_err-put_report-clause-fails g c =
    let fault = c.in_err-put_report.field-0.0 in
    let same : c.from_residual-in_err-put_report.result ≡ Err fault = search rules in
    let ifaces = c.args.prepared.ifaces.list in
    let packets = c.args.prepared.packets.items in
    let outcomes = c.in_ok-played.played.outcomes in
    let are = are_outputs _ _ _ _ _ _ _ _ _ c.in_ok-played.ensures.plays in
    let text : report_text ifaces c.as_slice.result.now c.as_slice-2.result.now ≡ report_text ifaces packets outcomes =
    rw (c.as_slice.ensures, c.as_slice-2.ensures) (same_report ifaces packets outcomes c.in_ok-played.played.packets are) in
    let old = (g.O.Sink.moment c.args.out.now).held in
    let new = (g.O.Sink.moment c.put_report.new.out).held in
    let plays = rw (c.as_slice-configs.ensures.value, c.as_slice-phases.ensures.value, c.spread_of-spread.ensures) at c.in_ok-played.ensures.plays in
    rw same (FailsReport.unput plays c.in_err-put_report.ensures.fault (subst (λ (t : List ℕ). AppendsFront old new t) text c.put_report.ensures.front))

pub returns-clause-outputs : goal.returns-clause-outputs
returns-clause-outputs g c = are_outputs _ _ _ _ _ _ _ _ _ c.in_ok-played.ensures.plays

pub returns-clause-whole : goal.returns-clause-whole
returns-clause-whole g c =
    let ifaces = c.args.prepared.ifaces.list in
    let packets = c.args.prepared.packets.items in
    let outcomes = c.in_ok-played.played.outcomes in
    let are = are_outputs _ _ _ _ _ _ _ _ _ c.in_ok-played.ensures.plays in
    let text : report_text ifaces c.as_slice.result.now c.as_slice-2.result.now ≡ report_text ifaces packets outcomes =
    rw (c.as_slice.ensures, c.as_slice-2.ensures) (same_report ifaces packets outcomes c.in_ok-played.played.packets are) in
    let old = (g.O.Sink.moment c.args.out.now).held in
    let new = (g.O.Sink.moment c.put_report.new.out).held in
    subst (λ (t : List ℕ). Appends old new t) text c.in_ok-put_report.ensures.whole

pub play-requires-clause-unnumbered : goal.play-requires-clause-unnumbered
play-requires-clause-unnumbered g c κs within = c.requires.ready.unnumbered _
