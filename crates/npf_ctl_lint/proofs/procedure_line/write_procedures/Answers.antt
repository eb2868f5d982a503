use Rattle.std.proofs.Common.{rules}
use Rattle.std.proofs.lemmas.Slice.Zip.{zip_turn, zip_end}
use Rattle.npf_ctl_lint.specs.ProcedureLine.{found_procedure_line}
use Rattle.npf_ctl_lint.proofs.TextLemmas.{pairs_more, pairs_done}
use Rattle.npf_ctl_lint.proofs.procedure_line.write_procedures.Goals as goal

pub loop-procedure-preserved : goal.loop-procedure-preserved
loop-procedure-preserved c =
    let procedures = c.args.procedures.now in
    let used = c.args.used.now in
    let met = c.loop-procedure.yielded in
    let turn = zip_turn procedures used met c.into_iter-procedure-iterator.result c.loop-procedure.procedure-iterator c.next.new.self c.next.result
    (cc) (cc) c.loop-procedure.yielded_by (c.in-Some.procedure, c.in-Some.used) c.in-Some.is c.next.ensures.steps in
    record {
      can = search rules;
      finite = search rules;
      so_far = pairs_more found_procedure_line procedures used met (c.in-Some.procedure, c.in-Some.used) _ c.loop-procedure.into.items _
          turn.0 turn.1 (turn.2 c.in-Some.procedure.now) (turn.3 c.in-Some.used.now) c.loop-procedure.invariant.so_far c.in_ok-write_procedure.ensures;
    }

pub returns : goal.returns
returns c =
    pairs_done found_procedure_line c.args.procedures.now c.args.used.now c.loop-procedure.yielded _ c.loop-procedure.into.items
    (zip_end c.args.procedures.now c.args.used.now c.loop-procedure.yielded c.into_iter-procedure-iterator.result c.loop-procedure.procedure-iterator c.next.new.self
    c.next.result (cc) (cc) c.loop-procedure.yielded_by c.in-None.is c.next.ensures.steps)
    c.loop-procedure.invariant.so_far
