-- Calculations and comparisons: unsigned, on 32 bits.
use Rattle.std.specs.Prelude.{ℕ, ◌+◌, ◌-◌, ◌*◌, ◌/◌, ◌%◌, ◌^◌, Bool, not, Option, Some, None, if◌then◌else◌, ◌==◌, nat_lt, nat_le, bit_and, bit_or}
use Rattle.npf_bpf.specs.declared.operation.Arithmetic.{Arithmetic}
use Rattle.npf_bpf.specs.declared.operation.Arithmetic.TheVariants.{Add, Subtract, Multiply, Divide, Or, And, ShiftLeft, ShiftRight}
use Rattle.npf_bpf.specs.declared.operation.Comparison.{Comparison}
use Rattle.npf_bpf.specs.declared.operation.Comparison.TheVariants.{Equal, Greater, GreaterOrEqual, AnyBit}

-- a op b, modulo 2^32; a division by 0 has no result, and a shift by 32 or more gives 0
abbrev pub calculated : Arithmetic → ℕ → ℕ → Option ℕ
calculated Add a b = Some ((a + b) % 2 ^ 32)
calculated Subtract a b = Some ((a + (2 ^ 32 - b)) % 2 ^ 32)
calculated Multiply a b = Some (a * b % 2 ^ 32)
calculated Divide a b = if b == 0 then None else Some (a / b)
calculated Or a b = Some (bit_or a b)
calculated And a b = Some (bit_and a b)
calculated ShiftLeft a b = Some (if nat_lt b 32 then a * 2 ^ b % 2 ^ 32 else 0)
calculated ShiftRight a b = Some (if nat_lt b 32 then a / 2 ^ b else 0)

-- whether a comparison of a with b holds
abbrev pub compared : Comparison → ℕ → ℕ → Bool
compared Equal a b = a == b
compared Greater a b = nat_lt b a
compared GreaterOrEqual a b = nat_le b a
compared AnyBit a b = not (bit_and a b == 0)
