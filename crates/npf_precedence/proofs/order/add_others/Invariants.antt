use Rattle.std.proofs.Common.{◌≡◌, ◌++◌, map}
use Rattle.std.specs.List.{filter}
use Rattle.npf_precedence.specs.Entry.{entry_is_not_final}
use Rattle.npf_precedence.proofs.order.add_others.Given as goal

abbrev pub invariant-loop-entry : goal.invariant-loop-entry
invariant-loop-entry l = l.order.items ≡ l.initial.order.items ++ filter entry_is_not_final (map (λ entry. entry.now) l.yielded)
