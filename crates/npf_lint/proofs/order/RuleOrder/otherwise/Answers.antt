use Rattle.std.proofs.Common.{Ok, sym, ap, ◌∙◌, arith}
use Rattle.npf_steps.specs.declared.steps.Steps.{Steps}
use Rattle.npf_lint.proofs.OrderLemmas.{none_there}
use Rattle.npf_lint.proofs.ReachedLemmas.{alike_by_effect, alike_by_none, is_otherwise}
use Rattle.npf_lint.proofs.order.RuleOrder.otherwise.Goals as goal
use Rattle.npf_lint.proofs.order.RuleOrder.otherwise.Goals.{then-not-is_same+in_ok-found+else-is_some, else-not-is_same}

pub returns-then-is_some-clause-found : goal.returns-then-is_some-clause-found
returns-then-is_some-clause-found c =
    is_otherwise c.args.self.now.model.now c.args.self.now.packets.tables.now c.args.self.now.order.now c.args.at c.loop-next.next c.in_ok-found.found
    (λ same. c.is_same.ensures.other c.if-not-is_same.true (c.effect.ensures ∙ same ∙ sym c.effect-effect.ensures)) c.in_ok-found.ensures.found

pub loop-next-preserved : goal.loop-next-preserved
loop-next-preserved c =
    let model = c.args.self.now.model.now in
    let tables = c.args.self.now.packets.tables.now in
    let order = c.args.self.now.order.now in
    let next = c.loop-next.next in
    let inv = c.loop-next.invariant in
    elim c.if-not-is_same.branch [
      | then-not-is_same+in_ok-found+else-is_some w ↦ record {
        alike = alike_by_none model tables order c.args.at next inv.alike
            (w.in_ok-found.ensures.none (ap Ok (none_there w.in_ok-found.found (sym w.is_some.ensures ∙ w.if-is_some.false))));
        most = ap (λ (s : Steps). s.most) w.steps-is ∙ w.left.ensures.most ∙ inv.most;
        rises = omega (arith, w.left.ensures.rises, inv.rises, ap (λ (s : Steps). s.taken) w.steps-is);
      }
      | else-not-is_same w ↦ record {
        alike = alike_by_effect model tables order c.args.at next inv.alike
            (sym c.effect.ensures ∙ c.is_same.ensures.same w.if-not-is_same.false ∙ c.effect-effect.ensures);
        most = ap (λ (s : Steps). s.most) w.steps-is ∙ inv.most;
        rises = omega (arith, inv.rises, ap (λ (s : Steps). s.taken) w.steps-is);
      }
    ]
