use Rattle.std.specs.Vec.{vec_len}
use Rattle.std.proofs.lemmas.{Bool.{and_parts, eqb-true}, List.nil_from_length}
use Rattle.std.proofs.Common.{Ok, ap, sym, ◌∙◌, arith}
use Rattle.npf_products.specs.declared.packet.CellPacket.{CellPacket}
use Rattle.npf_reach.specs.Kinds.{IsPacket}
use Rattle.npf_reach.specs.Packets.{has_packet}
use Rattle.npf_judge.specs.Order.{is_first, meets_entry}
use Rattle.npf_lint.proofs.OrderLemmas.{is_covered, is_unmatched, none_by, not_first, some_there, unanswered}
use Rattle.npf_lint.proofs.order.RuleOrder.finding.Goals as goal

pub reached-requires-clause-possible : goal.reached-requires-clause-possible
reached-requires-clause-possible c =
    some_there (λ (p : CellPacket). IsPacket p.facts p.ifid) c.in_ok-packet.field-0 c.in-Some.packet c.in-Some.is c.in_ok-packet.ensures.possible

pub reached-requires-clause-first : goal.reached-requires-clause-first
reached-requires-clause-first c =
    let packet = c.in-Some.packet in
    (and_parts (has_packet c.in_ok-matched.matched packet.facts packet.ifid packet.dir)
    (is_first (meets_entry c.args.self.now.packets.tables.now packet.facts packet.ifid packet.dir) c.args.self.now.order.now c.args.at)
    (some_there _ c.in_ok-packet.field-0 packet c.in-Some.is c.in_ok-packet.ensures.found)).1

pub returns-then-is_empty-clause-found : goal.returns-then-is_empty-clause-found
returns-then-is_empty-clause-found c = λ place here.
    let model = c.args.self.now.model.now in
    let tables = c.args.self.now.packets.tables.now in
    let order = c.args.self.now.order.now in
    let none = not_first tables order c.args.at c.in_ok-matched.matched c.in_ok-matched.ensures.matched
    (c.in_ok-packet.ensures.none (ap Ok (none_by c.in_ok-packet.field-0 c.in_default.not-Some))) in (
      unanswered model tables order c.requires.places c.args.at place here none,
      is_unmatched model tables order c.requires.places c.args.at place here none c.requires.within c.in_ok-others.others.items c.in_ok-others.ensures.others
          (nil_from_length c.in_ok-others.others.items
          (omega (arith, eqb-true (vec_len c.in_ok-others.others) 0 (sym c.is_empty.ensures ∙ c.if-is_empty.true)))),
    )

pub returns-clause-found : goal.returns-clause-found
returns-clause-found c = λ place here.
    let model = c.args.self.now.model.now in
    let tables = c.args.self.now.packets.tables.now in
    let order = c.args.self.now.order.now in
    let none = not_first tables order c.args.at c.in_ok-matched.matched c.in_ok-matched.ensures.matched
    (c.in_ok-packet.ensures.none (ap Ok (none_by c.in_ok-packet.field-0 c.in_default.not-Some))) in (
      unanswered model tables order c.requires.places c.args.at place here none,
      is_covered model tables order c.requires.places c.args.at place here none c.requires.within c.in_ok-others.others.items c.in_ok-others.ensures.others c.in_ok-others.ensures.ascending,
    )
