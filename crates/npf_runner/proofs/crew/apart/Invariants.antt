use Rattle.std.{proofs.Common.{◌≡◌, ◌≤◌, ◌+◌, ◌++◌, map, length, vec_len, vec_capacity}, specs.Vec.Iter.into_iter_items}
use Rattle.npf_runner_dealing.specs.Lanes.{queue_items}
use Rattle.npf_runner.specs.Crew.{pass_of_lane, outcomes_of_lane, packets_of_lane}
use Rattle.npf_runner.proofs.crew.apart.Given as goal

abbrev pub invariant-loop-lane : goal.invariant-loop-lane
invariant-loop-lane g l =
    (goal.iterator-loop-lane g).can_next l.lane-iterator
    × (goal.iterator-loop-lane g).is_finite l.lane-iterator
    × (vec_len l.queues.outcomes + length (into_iter_items l.lane-iterator) ≤ vec_capacity l.queues.outcomes)
    × (vec_len l.queues.packets + length (into_iter_items l.lane-iterator) ≤ vec_capacity l.queues.packets)
    × (vec_len l.passes + length (into_iter_items l.lane-iterator) ≤ vec_capacity l.passes)
    × (vec_capacity l.passes ≡ vec_capacity l.initial.passes)
    × (l.initial.passes.items ++ map pass_of_lane l.fn.lanes.items ≡ l.passes.items ++ map pass_of_lane (into_iter_items l.lane-iterator))
    × (map outcomes_of_lane l.fn.lanes.items ≡ map queue_items l.queues.outcomes.items ++ map outcomes_of_lane (into_iter_items l.lane-iterator))
    × (map packets_of_lane l.fn.lanes.items ≡ map queue_items l.queues.packets.items ++ map packets_of_lane (into_iter_items l.lane-iterator))
