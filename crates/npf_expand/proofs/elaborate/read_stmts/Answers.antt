use Rattle.std.proofs.Common.{List, subst, ◌∙◌}
use Rattle.npf_model.specs.declared.iface.Iface.{Iface}
use Rattle.npf_expand_values.specs.Source.{declared_by}
use Rattle.npf_expand.specs.Step.{IsStmtRead}
use Rattle.npf_expand.proofs.ReadLemmas.{stmts_adding, stmts_first, stmts_start, stmts_step}
use Rattle.npf_expand.proofs.elaborate.read_stmts.Goals as goal

pub loop-stmt-init : goal.loop-stmt-init
loop-stmt-init c =
    let stmts = c.args.stmts.now in
    let declared = declared_by c.args.declarations.now.source in
    record {
      run = c.new-state.ensures.run;
      left = stmts_start c.args.interfaces.now.list.now declared c.new-state.result stmts c.new-state.ensures.none c.new-state.ensures.met c.new-state.ensures.empty;
    }

pub loop-stmt-preserved : goal.loop-stmt-preserved
loop-stmt-preserved c =
    let stmts = c.args.stmts.now in
    let declared = declared_by c.args.declarations.now.source in
    let same = c.loop-stmt.invariant.run in
    record {
      run = c.in_ok-step.ensures.run ∙ same;
      left = stmts_step c.args.interfaces.now.list.now declared c.loop-stmt.state c.step.new.self stmts c.loop-stmt.stmt-index c.stmt-item.result _ c.loop-stmt-test.true
          c.stmt-item.is c.loop-stmt.invariant.left
          (subst (λ (list : List Iface). IsStmtRead list declared c.loop-stmt.state c.step.new.self c.stmt-item.result) same c.in_ok-step.ensures);
    }

pub returns-clause-first : goal.returns-clause-first
returns-clause-first c =
    let stmts = c.args.stmts.now in
    let declared = declared_by c.args.declarations.now.source in
    stmts_first c.args.interfaces.now.list.now declared c.loop-stmt.state stmts c.loop-stmt.stmt-index c.loop-stmt-test.false c.loop-stmt.invariant.left

pub returns-clause-adding : goal.returns-clause-adding
returns-clause-adding c =
    let stmts = c.args.stmts.now in
    let declared = declared_by c.args.declarations.now.source in
    stmts_adding c.args.interfaces.now.list.now declared c.loop-stmt.state stmts c.loop-stmt.stmt-index c.loop-stmt-test.false c.loop-stmt.invariant.left
