use Rattle.std.{proofs.Common.{◌+◌, ◌≤◌, All, length, vec_len, vec_capacity}, specs.Vec.Iter.into_iter_items}
use Rattle.npf_reass_run.{specs.Gathering.IsOfferAmong, proofs.ListLemmas.HasArrived}
use Rattle.npf_reass_run.proofs.gather.arrived_lists.Given as goal

abbrev pub invariant-loop-list : goal.invariant-loop-list
invariant-loop-list l =
    (goal.iterator-loop-list).can_next l.list-iterator ×
    (goal.iterator-loop-list).is_finite l.list-iterator
    × All (λ list. All (IsOfferAmong l.packets) list.items) (into_iter_items l.list-iterator)
    × HasArrived l.packets l.fn.lists.items (into_iter_items l.list-iterator) l.classes.items
    × (vec_len l.classes + length (into_iter_items l.list-iterator) ≤ vec_capacity l.classes)
