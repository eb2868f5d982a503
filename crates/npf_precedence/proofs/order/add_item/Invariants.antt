use Rattle.std.proofs.Common.{◌≡◌, ◌+◌, ◌++◌, length, map, take}
use Rattle.npf_precedence.specs.{Entry.ordered_rule, Precedence.rules_from}
use Rattle.npf_precedence.proofs.order.add_item.Given as goal

abbrev pub invariant-loop-entry : goal.invariant-loop-entry
invariant-loop-entry l =
    map ordered_rule l.rules.items
    ≡ map ordered_rule l.initial.rules.items
    ++ rules_from l.group (l.first + length l.initial.rules.items) (map (λ numbered. record { within_dir = l.dir; within_on = l.on; rule = numbered.1 }) (take l.entry-index l.entry-items))
