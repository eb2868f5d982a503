use Rattle.std.proofs.Common.{◌≡◌, ◌++◌, map, take}
use Rattle.npf_products.specs.Product.{product_holds}
use Rattle.npf_compare_maps.specs.Side.{map_holds}
use Rattle.npf_compare_maps.proofs.products.add_maps.Given as goal

-- behind what was there those of the maps so far
abbrev pub invariant-loop-map : goal.invariant-loop-map
invariant-loop-map l = map product_holds l.products.items ≡ map product_holds l.initial.products.items ++ map (map_holds l.tables l.dir) (take l.map-index l.maps)
