use Rattle.std.proofs.Common.{ap, length, sym, ◌∙◌, arith}
use Rattle.npf_lint.proofs.OrderLemmas.{matched_are}
use Rattle.npf_dead_groups.proofs.EntryLemmas.{entries_count, front_below}
use Rattle.npf_dead_groups.proofs.LeftLemmas.{comes, dead}
use Rattle.npf_dead_groups.proofs.order.GroupOrder.left_to.Goals as goal

pub narrow-requires-2-clause-known : goal.narrow-requires-2-clause-known
narrow-requires-2-clause-known c =
    omega (
      arith,
      c.decider_with-none.ensures.first,
      c.decider_with-none.ensures.count,
      c.requires.is.count,
      ap length c.in_ok-of_group.ensures.of.products_are,
      c.requires.front,
      front_below c.args.self.now.rules.groups.now c.args.place,
      entries_count c.args.self.now.rules.groups.now c.args.self.now.rules.entries.now c.requires.entries c.args.place,
    )

pub returns-clause-none : goal.returns-clause-none
returns-clause-none c = λ none.
    dead c.args.self.now.rules.groups.now c.args.self.now.rules.entries.now c.requires.entries c.args.self.now.packets c.in_ok-of_group.of_group c.in_ok-left.left c.requires.is
    c.args.place c.args.front c.requires.within c.requires.front c.args.own c.requires.own
    (matched_are c.args.self.now.rules.entries.now c.args.self.now.packets c.in_ok-of_group.of_group c.alone-group.result c.args.own c.requires.is
    (omega (arith, c.requires.own, c.requires.within, entries_count c.args.self.now.rules.groups.now c.args.self.now.rules.entries.now c.requires.entries c.args.place))
    (c.alone-group.ensures.first ∙ sym c.requires.own) c.alone-group.ensures.count c.alone-group.ensures.place c.in_ok-of_group.ensures.narrowed)
    c.in_ok-of_group.ensures.of c.decider_with-none.result c.decider_with-none.ensures.first c.decider_with-none.ensures.count c.decider_with-none.ensures.place
    c.in_ok-left.ensures.narrowed (c.packet.ensures.none none)

pub returns-clause-found : goal.returns-clause-found
returns-clause-found c =
    comes c.args.self.now.rules.groups.now c.args.self.now.rules.entries.now c.requires.entries c.args.self.now.packets c.in_ok-of_group.of_group c.in_ok-left.left c.requires.is
    c.args.place c.args.front c.requires.within c.requires.front c.args.own c.requires.own
    (matched_are c.args.self.now.rules.entries.now c.args.self.now.packets c.in_ok-of_group.of_group c.alone-group.result c.args.own c.requires.is
    (omega (arith, c.requires.own, c.requires.within, entries_count c.args.self.now.rules.groups.now c.args.self.now.rules.entries.now c.requires.entries c.args.place))
    (c.alone-group.ensures.first ∙ sym c.requires.own) c.alone-group.ensures.count c.alone-group.ensures.place c.in_ok-of_group.ensures.narrowed)
    c.in_ok-of_group.ensures.of c.decider_with-none.result c.decider_with-none.ensures.first c.decider_with-none.ensures.count c.decider_with-none.ensures.place
    c.in_ok-left.ensures.narrowed c.packet.result c.packet.ensures.possible c.packet.ensures.found
