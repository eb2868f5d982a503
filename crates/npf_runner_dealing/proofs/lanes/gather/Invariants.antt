use Rattle.std.proofs.Common.{◌≡◌, ◌≤◌, ◌+◌, ◌++◌, List, map, length, drop, vec_len, vec_capacity}
use Rattle.npf_runner_dealing.specs.Lanes.{IsDealt, queue_items}
use Rattle.npf_runner_dealing.proofs.lanes.gather.Given as goal

abbrev pub invariant-loop-lane : goal.invariant-loop-lane
invariant-loop-lane g l =
    ((xs : List _) × IsDealt (drop l.lane-index l.order) xs (map queue_items l.lanes.items))
    × ((xs : List _) → IsDealt l.order xs (map queue_items l.initial.lanes.items) →
    (left : List _) × (l.initial.all.items ++ xs ≡ l.all.items ++ left) × IsDealt (drop l.lane-index l.order) left (map queue_items l.lanes.items))
    × (vec_len l.all + length (drop l.lane-index l.order) ≤ vec_capacity l.all)
    × (vec_capacity l.all ≡ vec_capacity l.initial.all)
