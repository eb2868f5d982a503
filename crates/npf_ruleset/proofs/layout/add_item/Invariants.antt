use Rattle.std.proofs.Common.{◌≡◌, ◌++◌}
use Rattle.npf_ruleset.specs.Layout.{places_from}
use Rattle.npf_ruleset.proofs.layout.add_item.Given as goal

abbrev pub invariant-loop-number : goal.invariant-loop-number
invariant-loop-number l = l.places.items ≡ l.fn.places.items ++ places_from l.first l.number
