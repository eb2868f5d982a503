use Rattle.std.proofs.Common.{arith}
use Rattle.npf_lint.proofs.OrderLemmas.{matched_are}
use Rattle.npf_lint.proofs.order.RuleOrder.matched.Goals as goal

pub narrow-requires-clause-of : goal.narrow-requires-clause-of
narrow-requires-clause-of c = c.requires.is.of

pub narrow-requires-clause-known : goal.narrow-requires-clause-known
narrow-requires-clause-known c = omega (arith, c.alone-rule.ensures.first, c.alone-rule.ensures.count, c.requires.is.count, c.requires.within)

pub returns-clause-matched : goal.returns-clause-matched
returns-clause-matched c =
    matched_are c.args.self.now.order.now c.args.self.now.packets c.in_ok-packets.packets c.alone-rule.result c.args.at c.requires.is c.requires.within
    c.alone-rule.ensures.first c.alone-rule.ensures.count c.alone-rule.ensures.place c.in_ok-packets.ensures.narrowed
