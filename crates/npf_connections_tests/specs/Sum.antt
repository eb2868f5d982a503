-- A law whose flow adds up what its packets bring.
use Rattle.std.specs.Prelude.{ℕ, ◌+◌, ◌%◌, ◌^◌, nat_le}
use Rattle.npf_core.specs.Meaning.{Meaning}

-- it answers the sum before, and is due from the time on that equals the sum
abbrev pub sum_law : Meaning ℕ ℕ ℕ
sum_law = record {
  next = λ sum way arg. (sum + arg) % 2 ^ 32;
  answer = λ sum way arg. sum;
  is_due = λ sum now. nat_le sum now;
}
