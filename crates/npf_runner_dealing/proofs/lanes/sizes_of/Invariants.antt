use Rattle.std.proofs.Common.{◌≡◌, ◌≤◌, All, vec_len}
use Rattle.npf_runner_dealing.proofs.lanes.sizes_of.Given as goal

abbrev pub invariant-loop-lane : goal.invariant-loop-lane
invariant-loop-lane l = (vec_len l.sizes ≡ l.lanes) × All (λ size. size ≤ l.lane-index) l.sizes.items
