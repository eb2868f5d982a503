use Rattle.std.proofs.Common.{◌≡◌, take}
use Rattle.npf_products.proofs.ends.port_ranges.Given as goal

abbrev pub invariant-loop-low : goal.invariant-loop-low
invariant-loop-low l = l.ranges.items ≡ take l.low-index l.ports
