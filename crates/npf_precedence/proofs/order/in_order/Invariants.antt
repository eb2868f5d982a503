use Rattle.std.proofs.Common.{◌≡◌, map, take}
use Rattle.npf_precedence.specs.{Entry.ordered_rule, Precedence.order_from}
use Rattle.npf_precedence.proofs.order.in_order.Given as goal

abbrev pub invariant-loop-group : goal.invariant-loop-group
invariant-loop-group l = map ordered_rule l.order.items ≡ order_from 0 (take l.group-index l.groups)
