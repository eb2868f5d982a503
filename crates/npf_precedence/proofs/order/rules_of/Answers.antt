use Rattle.npf_precedence.proofs.EntryLemmas.{lays_item}
use Rattle.npf_precedence.proofs.order.rules_of.Goals as goal

pub loop-item-preserved : goal.loop-item-preserved
loop-item-preserved c =
    lays_item c.args.group.now c.args.first c.as_slice-item-items.result.now c.loop-item.item-index c.item-item.result c.loop-item.rules.items c.add_item.new.rules.items
    c.loop-item-test.true c.item-item.is c.loop-item.invariant c.in_ok-add_item.ensures
