use Rattle.std.{proofs.{Common.{◌≡◌, true, length, take, subst, sym, ap, ◌∙◌, arith}, Math.Seq.take-length}, specs.List.list_any}
use Rattle.npf_model.specs.Describes.{item_has}
use Rattle.npf_ruleset.proofs.RowLemmas.{more_items}
use Rattle.npf_ruleset.proofs.addr_hull.items_hull.Goals as goal

pub loop-item-preserved : goal.loop-item-preserved
loop-item-preserved c =
    more_items c.args.items.now c.loop-item.item-index c.in-Net.prefix c.loop-item.hull c.block_hull.result c.joined-hull.result c.loop-item-test.true c.item-item.result
    (sym c.in-Net.is ∙ c.item-item.is)
    c.loop-item.invariant c.block_hull.ensures c.joined-hull.ensures.one c.joined-hull.ensures.other

pub returns : goal.returns
returns c = λ tables addr any.
    let end = c.loop-item.auto.item-index-end in let past = c.loop-item-test.false in
    let whole : c.loop-item.item-index ≡ length c.args.items.now = omega arith in
    c.loop-item.invariant tables addr (subst (λ items. list_any (item_has tables addr) items ≡ true) (sym (ap (λ k. take k c.args.items.now) whole ∙ take-length c.args.items.now)) any)
