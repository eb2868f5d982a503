use Rattle.std.proofs.Common.{◌≡◌, ◌≤◌, ◌-◌, ◌↔◌, ◌⊎◌, ℕ, true, Contains, take}
use Rattle.npf_bits.specs.Bits.{has}
use Rattle.npf_cut.proofs.set_bits.put_all.Given as goal

abbrev pub invariant-loop-number : goal.invariant-loop-number
invariant-loop-number l = (n : ℕ) → (has l.words n ≡ true) ↔ ((has l.fn.words n ≡ true) ⊎ ((l.first ≤ n) × Contains (take l.number-index l.numbers) (n - l.first)))
