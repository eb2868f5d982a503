use Rattle.std.proofs.Common.{◌≡◌, ◌-◌, Ok, None, IfSome, length, ap, subst, arith}
use Rattle.npf_products.specs.declared.packet.CellPacket.{CellPacket}
use Rattle.npf_lint.specs.Order.{IsLeftAt, IsOtherwise, rules_behind}
use Rattle.npf_lint.proofs.OrderLemmas.{none_by, some_there}
use Rattle.npf_lint.proofs.ReachedLemmas.{behind_length, is_needed, is_replaced}
use Rattle.npf_lint.proofs.order.RuleOrder.reached.Goals as goal

pub returns-in-Some-clause-found : goal.returns-in-Some-clause-found
returns-in-Some-clause-found c = λ place here.
    let model = c.args.self.now.model.now in
    let tables = c.args.self.now.packets.tables.now in
    let order = c.args.self.now.order.now in
    is_needed model tables order c.requires.places c.args.at place here c.in-Some.found
    (some_there (IsOtherwise model tables order c.args.at) c.in_ok-found.field-0 c.in-Some.found c.in-Some.is c.in_ok-found.ensures.found)

pub returns-clause-found : goal.returns-clause-found
returns-clause-found c = λ place here.
    let model = c.args.self.now.model.now in
    let tables = c.args.self.now.packets.tables.now in
    let order = c.args.self.now.order.now in
    let last : length order - c.args.at - 1 ≡ length (rules_behind order c.args.at) = omega (arith, behind_length order c.args.at, c.requires.within) in
    is_replaced model tables order c.requires.places c.args.at place here
    (record { packet = c.args.packet; others = c.in_ok-others.others; none = c.is_some-none.result }) c.in_ok-left.field-0
    c.requires.possible c.requires.first (c.in_ok-found.ensures.none (ap Ok (none_by c.in_ok-found.field-0 c.in_default.not-Some)))
    c.in_ok-others.ensures.left c.in_ok-others.ensures.ascending c.is_some-none.ensures
    (subst (λ n. c.in_ok-left.field-0 ≡ None → (packet : CellPacket) → ¬ IsLeftAt tables order c.args.at n packet) last (λ none. c.in_ok-left.ensures.none (ap Ok none)))
    (subst (λ n. IfSome c.in_ok-left.field-0 (IsLeftAt tables order c.args.at n)) last c.in_ok-left.ensures.found)
