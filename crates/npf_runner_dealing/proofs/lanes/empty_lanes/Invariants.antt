use Rattle.std.proofs.Common.{◌≡◌, ◌≤◌, [], All, vec_len, vec_capacity}
use Rattle.npf_runner_dealing.proofs.lanes.empty_lanes.Given as goal

abbrev pub invariant-loop-size : goal.invariant-loop-size
invariant-loop-size g l = (vec_len l.made ≡ l.size-index) × (l.lanes ≤ vec_capacity l.made) × All (λ lane. lane.items ≡ []) l.made.items
