use Rattle.std.proofs.Common.{arith}
use Rattle.npf_lint.proofs.ReachedLemmas.{none_left, some_left}
use Rattle.npf_lint.proofs.order.RuleOrder.left.Goals as goal

pub returns-clause-none : goal.returns-clause-none
returns-clause-none c = λ none.
    none_left c.args.self.now.order.now c.args.self.now.packets c.args.own.now c.in_ok-left.left c.decider_with-place.result c.args.at c.args.next c.requires.is
    (omega (arith, c.requires.within)) c.requires.own c.decider_with-place.ensures.first c.decider_with-place.ensures.count c.decider_with-place.ensures.place
    c.in_ok-left.ensures.narrowed (c.packet.ensures.none none)

pub returns-clause-found : goal.returns-clause-found
returns-clause-found c =
    some_left c.args.self.now.order.now c.args.self.now.packets c.args.own.now c.in_ok-left.left c.decider_with-place.result c.args.at c.args.next c.requires.is
    (omega (arith, c.requires.within)) c.requires.own c.decider_with-place.ensures.first c.decider_with-place.ensures.count c.decider_with-place.ensures.place
    c.in_ok-left.ensures.narrowed c.packet.result c.packet.ensures.possible c.packet.ensures.found
