use Rattle.std.proofs.Common.{◌≡◌, ◌++◌, map, take}
use Rattle.npf_products.proofs.SetsLemmas.{as_range}
use Rattle.npf_products.proofs.sets.add_ranges.Given as goal

abbrev pub invariant-loop-low : goal.invariant-loop-low
invariant-loop-low l = l.ranges.items ≡ l.fn.ranges.items ++ map (as_range l.set) (take l.low-index l.own)
