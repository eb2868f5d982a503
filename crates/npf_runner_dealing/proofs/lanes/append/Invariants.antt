use Rattle.std.proofs.Common.{◌≡◌, ◌≤◌, ◌+◌, ◌++◌, length, vec_len, vec_capacity}
use Rattle.npf_runner_dealing.proofs.lanes.append.Given as goal

abbrev pub invariant-loop : goal.invariant-loop
invariant-loop g l =
    (l.initial.all.items ++ l.initial.lane.items ≡ l.all.items ++ l.lane.items)
    × (vec_len l.all + length l.lane.items ≤ vec_capacity l.all)
    × (vec_capacity l.all ≡ vec_capacity l.initial.all)
    × (length l.lane.items + l.counter ≡ length l.initial.lane.items)
