use Rattle.std.proofs.Common.{◌≡◌, ◌&&◌, ◌==◌, ℕ}
use Rattle.std.specs.Prelude.{bit_and, nat_lt}
use Rattle.npf_products.specs.Condition.{has_number}
use Rattle.npf_products.proofs.rule.control_bits.Given as goal

abbrev pub invariant-loop-flags : goal.invariant-loop-flags
invariant-loop-flags l = (flags : ℕ) → has_number l.ranges.items flags ≡ (nat_lt flags l.flags && (bit_and flags l.mask == l.wanted))
