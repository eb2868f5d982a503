use Rattle.std.proofs.Common.{ap, sym, ◌∙◌, length, arith}
use Rattle.npf_judge.proofs.QuestionLemmas.{self_of}
use Rattle.npf_lint.proofs.OrderLemmas.{left_are, left_found}
use Rattle.npf_lint.proofs.order.RuleOrder.decided.Goals as goal

pub narrow-requires-clause-of : goal.narrow-requires-clause-of
narrow-requires-clause-of c = self_of c.args.self.now.packets.tables.now c.args.self.now.packets.products.now c.args.among.now c.requires.among

pub narrow-requires-clause-known : goal.narrow-requires-clause-known
narrow-requires-clause-known c =
    omega (arith, c.decider_with-place.ensures.first, c.decider_with-place.ensures.count, c.requires.is.count, ap length c.requires.among.products_are)

pub packet-requires : goal.packet-requires
packet-requires c = self_of c.args.among.now.tables.now c.args.among.now.products.now c.in_ok-left.left c.in_ok-left.ensures.of

pub returns-clause-none : goal.returns-clause-none
returns-clause-none c = λ none facts ifid dir packet.
    sym (left_are c.args.self.now.order.now c.args.self.now.packets c.args.among.now c.in_ok-left.left c.decider_with-place.result c.args.at c.requires.is c.requires.among
    c.decider_with-place.ensures.first c.decider_with-place.ensures.count c.decider_with-place.ensures.place c.in_ok-left.ensures.narrowed facts ifid dir packet)
    ∙ c.packet.ensures.none none facts ifid dir packet

pub returns-clause-found : goal.returns-clause-found
returns-clause-found c =
    left_found c.args.self.now.order.now c.args.self.now.packets c.args.among.now c.in_ok-left.left c.decider_with-place.result c.args.at c.requires.is c.requires.among
    c.decider_with-place.ensures.first c.decider_with-place.ensures.count c.decider_with-place.ensures.place c.in_ok-left.ensures.narrowed
    c.packet.result c.packet.ensures.possible c.packet.ensures.found
