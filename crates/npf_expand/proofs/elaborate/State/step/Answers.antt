use Rattle.std.proofs.Common.{subst, sym}
use Rattle.npf_types.specs.declared.span.Span.{Span}
use Rattle.npf_shelf.proofs.OptionLemmas.{OnOk-weaker}
use Rattle.npf_syntax.specs.declared.stmt.Stmt.{Stmt}
use Rattle.npf_expand_values.specs.{Scope.ifaces_in, Source.declared_by}
use Rattle.npf_expand.specs.Step.{IsStmtRead}
use Rattle.npf_expand.proofs.elaborate.State.step.Goals as goal

pub returns-in-Define : goal.returns-in-Define
returns-in-Define c =
    let ifaces = ifaces_in c.args.self.now.variables in
    let declared = declared_by c.args.declarations.now.source in
    let Does : Stmt → Type 0 = λ stmt. IsStmtRead ifaces declared c.args.self.now c.define.new.self stmt in
    OnOk-weaker ((span : Span) → Does (Stmt.Define c.in-Define.var c.in-Define.values span)) (Does c.args.stmt.now) c.define.result
    (λ steps. subst Does (sym c.in-Define.is) (steps c.in-Define.span)) c.define.ensures
