use Rattle.std.{proofs.Common.{◌≡◌, ◌≤◌, ◌+◌, ◌++◌, All, map, length, vec_len, vec_capacity}, specs.{List.Contains, Vec.Iter.into_iter_items}}
use Rattle.npf_runner.specs.Crew.{worker_of_lane}
use Rattle.npf_runner.proofs.crew.lanes_with.Given as goal

abbrev pub invariant-loop-worker : goal.invariant-loop-worker
invariant-loop-worker g l =
    (goal.iterator-loop-worker g).can_next l.worker-iterator
    × (goal.iterator-loop-worker g).is_finite l.worker-iterator
    × (length (into_iter_items l.worker-iterator) ≤ vec_len l.passes)
    × (vec_len l.lanes + length (into_iter_items l.worker-iterator) ≡ vec_len l.fn.workers)
    × (vec_len l.fn.workers ≤ vec_capacity l.lanes)
    × (l.fn.workers.items ≡ map worker_of_lane l.lanes.items ++ into_iter_items l.worker-iterator)
    × All (λ pass. Contains l.initial.passes.items pass) l.passes.items
    × All (λ lane. Contains l.initial.passes.items lane.pass) l.lanes.items
