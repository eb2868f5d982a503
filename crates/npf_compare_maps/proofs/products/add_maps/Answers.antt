use Rattle.std.proofs.Common.{refl, arith}
use Rattle.npf_products.specs.Product.{product_holds}
use Rattle.npf_compare_maps.specs.Side.{map_holds}
use Rattle.npf_compare_maps.proofs.SideLemmas.{holds_more}
use Rattle.npf_compare_maps.proofs.products.add_maps.Goals as goal

pub loop-map-preserved : goal.loop-map-preserved
loop-map-preserved c =
    holds_more product_holds (map_holds c.args.tables c.args.dir) c.args.products.now.items c.loop-map.products.items c.push.new.self.items _ c.args.maps.now c.loop-map.map-index
    c.map-item.result c.in_ok-push.ensures.items c.loop-map.invariant (omega (arith, c.loop-map-test.true)) c.map-item.is refl
