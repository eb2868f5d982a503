use Rattle.std.proofs.Common.{refl, arith}
use Rattle.npf_products.specs.Product.{product_holds}
use Rattle.npf_compare_maps.specs.Side.{entry_holds}
use Rattle.npf_compare_maps.proofs.SideLemmas.{holds_more}
use Rattle.npf_compare_maps.proofs.products.add_rules.Goals as goal

pub loop-entry-preserved : goal.loop-entry-preserved
loop-entry-preserved c =
    holds_more product_holds (entry_holds c.args.tables) c.args.products.now.items c.loop-entry.products.items c.push.new.self.items _ c.args.order.now c.loop-entry.entry-index
    c.entry-item.result c.in_ok-push.ensures.items c.loop-entry.invariant (omega (arith, c.loop-entry-test.true)) c.entry-item.is refl
