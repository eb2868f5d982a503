use Rattle.std.specs.{List.Sorted.IsSortedWithin, Ordering.{is_lt, nat_cmp}}
use Rattle.npf_ctl_arrivals.proofs.order.are_in_order.Given as goal

abbrev pub invariant-loop-next : goal.invariant-loop-next
invariant-loop-next l = IsSortedWithin (λ later earlier. is_lt (nat_cmp later.time earlier.time)) l.packets 0 l.next
