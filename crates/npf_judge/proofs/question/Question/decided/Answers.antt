use Rattle.std.proofs.Common.{arith}
use Rattle.npf_judge.proofs.QuestionLemmas.{left_found, none_left, self_of}
use Rattle.npf_judge.proofs.question.Question.decided.Goals as goal

pub narrow-requires-clause-of : goal.narrow-requires-clause-of
narrow-requires-clause-of c = c.requires.is.of

pub narrow-requires-clause-known : goal.narrow-requires-clause-known
narrow-requires-clause-known c =
    omega (arith, c.decider_with-place.ensures.first, c.decider_with-place.ensures.count, c.requires.is.count)

pub packet-requires : goal.packet-requires
packet-requires c = self_of c.args.self.now.packets.tables.now c.args.self.now.packets.products.now c.in_ok-left.left c.in_ok-left.ensures.of

pub returns-clause-none : goal.returns-clause-none
returns-clause-none c = λ none.
    none_left c.args.self.now.class.now c.args.self.now.order.now c.args.self.now.packets c.in_ok-left.left c.requires.is c.decider_with-place.result
    c.decider_with-place.ensures.first c.decider_with-place.ensures.count c.args.at c.decider_with-place.ensures.place c.in_ok-left.ensures.narrowed
    (c.packet.ensures.none none)

pub returns-clause-found : goal.returns-clause-found
returns-clause-found c =
    left_found c.args.self.now.class.now c.args.self.now.order.now c.args.self.now.packets c.in_ok-left.left c.requires.is c.decider_with-place.result
    c.decider_with-place.ensures.first c.decider_with-place.ensures.count c.args.at c.decider_with-place.ensures.place c.in_ok-left.ensures.narrowed
    c.packet.result c.packet.ensures.possible c.packet.ensures.found
