use Rattle.std.proofs.{Common.{rules, ◌≡◌, ◌∙◌, Err, sym}, lemmas.Slice.Zip.AllZip-long}
use Rattle.npf_ctl_messages.specs.declared.fault.CommandFault.TheVariants.{NoMemory}
use Rattle.npf_ctl_output.{specs.Extents.IsExtentOf, proofs.OutputLemmas.{counts_of_outputs, outputs_have_time}}
use Rattle.npf_ctl_prepare.specs.View.{run_plan_of}
use Rattle.npf_ctl.{specs.Ends.{FailsPlan, FailsReport}, proofs.FileLemmas.{extents_named, nothing_put, same_as_itself}}
use Rattle.npf_ctl.proofs.RunLemmas.{fails_named, follows_named, follows_unnamed}
use Rattle.npf_ctl.proofs.run.run_prepared.Goals as goal

pub returns-in_err-report_run-in-None-clause-fails : goal.returns-in_err-report_run-in-None-clause-fails
returns-in_err-report_run-in-None-clause-fails g c =
    let fault = c.in_err-report_run-in-None.field-0.0 in
    let same : c.from_residual.result ≡ Err fault = search rules in
    rw same (FailsPlan.unreported (same_as_itself (g.F.Files.moment c.args.files.now).contents) c.in_err-report_run-in-None.ensures.fails)

pub returns-in_err-extents-in-Some-clause-fails : goal.returns-in_err-extents-in-Some-clause-fails
returns-in_err-extents-in-Some-clause-fails g c =
    let same : c.from_residual-in_err-extents-in-Some.result ≡ Err NoMemory = search rules in
    rw same (FailsPlan.unreported (same_as_itself (g.F.Files.moment c.args.files.now).contents) (FailsReport.unplayed (nothing_put (g.O.Sink.moment c.args.out.now))))

pub returns-in_err-played-in-Some-clause-fails : goal.returns-in_err-played-in-Some-clause-fails
returns-in_err-played-in-Some-clause-fails g c =
    let fault = c.in_err-played-in-Some.field-0.0 in
    let same : c.from_residual-in_err-played-in-Some.result ≡ Err fault = search rules in
    rw same (FailsPlan.unreported (same_as_itself (g.F.Files.moment c.args.files.now).contents) c.in_err-played-in-Some.ensures.fails)

pub write_passed-requires-clause-extents : goal.write_passed-requires-clause-extents
write_passed-requires-clause-extents g c =
    let counts = counts_of_outputs _ _ _ c.in_ok-played-in-Some.ensures.outputs in
    let same_packets : c.as_slice.result.now ≡ c.args.prepared.packets.items = search rules in
    let same_extents : c.as_slice-in-Some.result.now ≡ c.in_ok-extents-in-Some.extents.items = search rules in
    AllZip-long IsExtentOf _ _ (extents_named _ _ _ _ same_packets same_extents c.in_ok-extents-in-Some.ensures.extents) ∙ sym counts.1

pub write_passed-requires-clause-outcomes : goal.write_passed-requires-clause-outcomes
write_passed-requires-clause-outcomes g c =
    let counts = counts_of_outputs _ _ _ c.in_ok-played-in-Some.ensures.outputs in counts.0 ∙ sym counts.1

pub write_passed-requires-clause-timely : goal.write_passed-requires-clause-timely
write_passed-requires-clause-timely g c = outputs_have_time _ _ _ c.in_ok-played-in-Some.ensures.outputs c.requires.playable.timed

pub returns-in_ok-report_run-in-None-clause-done : goal.returns-in_ok-report_run-in-None-clause-done
returns-in_ok-report_run-in-None-clause-done g c =
    let told = c.in_ok-report_run-in-None.ensures in
    let played = c.in_ok-report_run-in-None.field-0 in
    follows_unnamed c.args.words (run_plan_of c.args.prepared) (g.C.Connections.view c.args.pass.now) (g.C.Connections.view c.report_run.new.pass)
    (g.O.Sink.moment c.args.out.now) (g.O.Sink.moment c.report_run.new.out) played.packets played.outcomes
    (record { played = told.played; reported = told.whole; flushed = told.flushed }) (g.F.Files.moment c.args.files.now) (search rules)

pub returns-in_ok-played-in-Some-clause-done : goal.returns-in_ok-played-in-Some-clause-done
returns-in_ok-played-in-Some-clause-done g c =
    let told = c.in_ok-played-in-Some.ensures in
    let played = c.in_ok-played-in-Some.played in
    let same_packets : c.as_slice.result.now ≡ c.args.prepared.packets.items = search rules in
    let same_extents : c.as_slice-in-Some.result.now ≡ c.in_ok-extents-in-Some.extents.items = search rules in
    follows_named c.args.words (run_plan_of c.args.prepared) (g.C.Connections.view c.args.pass.now) (g.C.Connections.view c.report_run-in-Some.new.pass)
    (g.O.Sink.moment c.args.out.now) (g.O.Sink.moment c.report_run-in-Some.new.out) played.packets played.outcomes
    (record { played = told.played; reported = told.whole; flushed = told.flushed }) c.in-Some.name.now (search rules) (g.F.Files.moment c.write_passed.new.files) c.write_passed.result
    (c.write_passed.ensures.written _ (extents_named _ _ _ _ same_packets same_extents c.in_ok-extents-in-Some.ensures.extents) told.outputs)

pub returns-in_ok-played-in-Some-clause-fails : goal.returns-in_ok-played-in-Some-clause-fails
returns-in_ok-played-in-Some-clause-fails g c =
    let told = c.in_ok-played-in-Some.ensures in
    let played = c.in_ok-played-in-Some.played in
    fails_named c.args.words (run_plan_of c.args.prepared) (g.C.Connections.view c.args.pass.now) (g.C.Connections.view c.report_run-in-Some.new.pass)
    (g.O.Sink.moment c.args.out.now) (g.O.Sink.moment c.report_run-in-Some.new.out) played.packets played.outcomes
    (record { played = told.played; reported = told.whole; flushed = told.flushed }) c.in-Some.name.now (search rules)
    (g.F.Files.moment c.args.files.now) (g.F.Files.moment c.write_passed.new.files) c.write_passed.result c.write_passed.ensures.fails

pub returns-in_ok-played-in-Some-clause-others : goal.returns-in_ok-played-in-Some-clause-others
returns-in_ok-played-in-Some-clause-others g c = rw c.in-Some.is c.write_passed.ensures.others
