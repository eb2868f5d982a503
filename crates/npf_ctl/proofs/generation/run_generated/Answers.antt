use Rattle.std.proofs.Common.{rules, ◌≡◌, List, Err, inl, subst, sym}
use Rattle.npf_engine.specs.declared.outcome.Outcome.{Outcome}
use Rattle.npf_ctl_messages.specs.declared.fault.CommandFault.TheVariants.{NoMemory}
use Rattle.npf_ctl_prepare.specs.View.{run_plan_of}
use Rattle.npf_traffic.specs.declared.phase.Spread.TheVariants.{Rr}
use Rattle.npf_runner.specs.Plays.{PlaysPhases}
use Rattle.npf_ctl.{specs.{Faults.{LeavesFiles, MeetsFault}, Run.moment}, proofs.FileLemmas.{nothing_put, not_touched, same_as_itself}}
use Rattle.npf_ctl.proofs.GenerateLemmas.{generated_ends, unprepared}
use Rattle.npf_ctl.proofs.generation.run_generated.Goals as goal

pub returns-in_err-prepared-clause-ends : goal.returns-in_err-prepared-clause-ends
returns-in_err-prepared-clause-ends g c =
    let fault = c.in_err-prepared.field-0.0 in
    let same : c.from_residual.result ≡ Err fault = search rules in
    rw same (λ texts files said. let at = moment files (g.O.Sink.moment c.args.out.now) (g.C.Connections.view c.args.pass.now) in
    unprepared texts at at c.args.number said (not_touched at) fault c.in_err-prepared.ensures.comes)

pub returns-in_err-whole-clause-ends : goal.returns-in_err-whole-clause-ends
returns-in_err-whole-clause-ends g c =
    let same : c.from_residual-in_err-whole.result ≡ Err NoMemory = search rules in
    rw same (λ texts files said. MeetsFault.in_memory (inl (nothing_put (g.O.Sink.moment c.args.out.now))) (LeavesFiles.unchanged (same_as_itself files.contents)))

pub returns-in_err-played-clause-ends : goal.returns-in_err-played-clause-ends
returns-in_err-played-clause-ends g c =
    let same : c.from_residual-in_err-played.result ≡ Err NoMemory = search rules in
    rw same (λ texts files said. MeetsFault.in_memory (inl (nothing_put (g.O.Sink.moment c.args.out.now))) (LeavesFiles.unchanged (same_as_itself files.contents)))

pub returns-clause-ends : goal.returns-clause-ends
returns-clause-ends g c = λ texts files said.
    let before = moment files (g.O.Sink.moment c.args.out.now) (g.C.Connections.view c.args.pass.now) in
    let after = moment files (g.O.Sink.moment c.put_total.new.out) (g.C.Connections.view c.play.new.pass) in
    let whole = c.in_ok-whole.whole in
    let played = c.in_ok-played.played in
    let plays = rw (c.as_slice-configs.ensures.value, c.as_slice-phases.ensures.value) at c.in_ok-played.ensures.plays in
    let told = subst (λ (outcomes : List Outcome). PlaysPhases (run_plan_of whole).configs 1 Rr before.pass after.pass whole.phases.items whole.packets.items played.packets outcomes)
    (sym c.as_slice.ensures) plays in
    generated_ends texts before after c.args.number said c.in_ok-prepared.prepared whole played.packets c.as_slice.result.now (same_as_itself files.contents)
    c.in_ok-prepared.ensures.comes c.in_ok-whole.ensures.whole told
    c.put_total.result c.put_total.ensures.whole c.put_total.ensures.flushed c.put_total.ensures.front c.put_total.ensures.fault
