use Rattle.std.proofs.Common.{◌≡◌, flat_map, take}
use Rattle.npf_products.specs.Condition.{prefix_range}
use Rattle.npf_products.proofs.block.ranges_of_blocks.Given as goal

abbrev pub invariant-loop-prefix : goal.invariant-loop-prefix
invariant-loop-prefix l = l.ranges.items ≡ flat_map (prefix_range l.family) (take l.prefix-index l.blocks)
