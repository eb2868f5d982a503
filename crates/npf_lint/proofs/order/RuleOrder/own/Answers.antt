use Rattle.npf_lint.proofs.ReachedLemmas.{are_own}
use Rattle.npf_lint.proofs.order.RuleOrder.own.Goals as goal

pub returns-clause-own : goal.returns-clause-own
returns-clause-own c =
    are_own c.args.self.now.order.now c.args.self.now.packets c.in_ok-packets.packets c.decider_with-place.result c.args.at c.requires.is
    c.decider_with-place.ensures.first c.decider_with-place.ensures.count c.decider_with-place.ensures.place c.in_ok-packets.ensures.of c.in_ok-packets.ensures.narrowed
