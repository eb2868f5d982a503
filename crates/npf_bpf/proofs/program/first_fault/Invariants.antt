-- Each instruction that was passed is in order, and they are at most 4,096.
use Rattle.std.proofs.Common.{ℕ, ◌<◌, ◌≤◌}
use Rattle.npf_bpf.specs.Validity.{IsInOrder}
use Rattle.npf_bpf.proofs.program.first_fault.Given as goal

abbrev pub invariant-loop-at : goal.invariant-loop-at
invariant-loop-at l = (l.at ≤ 4096) × ((k : ℕ) → k < l.at → IsInOrder l.code k)
