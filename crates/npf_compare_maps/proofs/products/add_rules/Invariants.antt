use Rattle.std.proofs.Common.{◌≡◌, ◌++◌, map, take}
use Rattle.npf_products.specs.Product.{product_holds}
use Rattle.npf_compare_maps.specs.Side.{entry_holds}
use Rattle.npf_compare_maps.proofs.products.add_rules.Given as goal

-- behind what was there those of the rules so far
abbrev pub invariant-loop-entry : goal.invariant-loop-entry
invariant-loop-entry l = map product_holds l.products.items ≡ map product_holds l.initial.products.items ++ map (entry_holds l.tables) (take l.entry-index l.order)
