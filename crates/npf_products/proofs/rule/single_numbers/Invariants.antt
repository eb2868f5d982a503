use Rattle.std.proofs.Common.{◌≡◌, map, take}
use Rattle.npf_products.proofs.rule.single_numbers.Given as goal

abbrev pub invariant-loop-number : goal.invariant-loop-number
invariant-loop-number l = l.ranges.items ≡ map (λ n. (n, n)) (take l.number-index l.numbers)
