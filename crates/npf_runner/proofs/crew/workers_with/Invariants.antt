use Rattle.std.{proofs.Common.{◌≡◌, ◌≤◌, ◌+◌, ◌++◌, All, map, length, vec_len, vec_capacity}, specs.{List.Contains, Vec.Iter.into_iter_items}}
use Rattle.npf_runner_dealing.specs.Lanes.{vec_items}
use Rattle.npf_runner.specs.Crew.{IsEquipped, numbers_of_worker, packets_of_worker}
use Rattle.npf_runner.proofs.crew.workers_with.Given as goal

abbrev pub invariant-loop-packets : goal.invariant-loop-packets
invariant-loop-packets l =
    (goal.iterator-loop-packets).can_next l.packets-iterator
    × (goal.iterator-loop-packets).is_finite l.packets-iterator
    × (length (into_iter_items l.packets-iterator) ≤ vec_len l.readers)
    × (length l.left.items ≡ length (into_iter_items l.packets-iterator))
    × (vec_len l.workers + length (into_iter_items l.packets-iterator) ≡ vec_len l.fn.packets)
    × (vec_len l.fn.packets ≤ vec_capacity l.workers)
    × (map vec_items l.fn.numbers.items ≡ map numbers_of_worker l.workers.items ++ map vec_items l.left.items)
    × (map vec_items l.fn.packets.items ≡ map packets_of_worker l.workers.items ++ map vec_items (into_iter_items l.packets-iterator))
    × All (λ reader. Contains l.fn.readers.items reader) l.readers.items
    × All IsEquipped l.workers.items
    × All (λ worker. Contains l.fn.readers.items worker.reader) l.workers.items
