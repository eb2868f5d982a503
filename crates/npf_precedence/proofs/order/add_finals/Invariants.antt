use Rattle.std.proofs.Common.{◌≡◌, ◌++◌, take}
use Rattle.std.specs.List.{filter}
use Rattle.npf_precedence.specs.Entry.{entry_is_final}
use Rattle.npf_precedence.proofs.order.add_finals.Given as goal

abbrev pub invariant-loop-entry : goal.invariant-loop-entry
invariant-loop-entry l = l.order.items ≡ l.initial.order.items ++ filter entry_is_final (take l.entry-index l.rules)
