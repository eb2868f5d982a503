use Rattle.npf_precedence.proofs.EntryLemmas.{lays_group}
use Rattle.npf_precedence.proofs.order.in_order.Goals as goal

pub loop-group-preserved : goal.loop-group-preserved
loop-group-preserved c =
    lays_group c.args.groups.now c.loop-group.group-index c.group-item.result c.loop-group.order.items c.add_finals.new.order.items c.add_others.new.order.items c.in_ok-rules.rules.items
    c.loop-group-test.true c.group-item.is c.loop-group.invariant (cc (c.in_ok-rules.ensures, c.len.ensures, c.loop-group.order.ok.0)) (cc (c.in_ok-add_finals.ensures, c.as_slice.ensures.value))
    (cc (c.in_ok-add_others.ensures, c.as_slice-in-loop-group.ensures.value))
