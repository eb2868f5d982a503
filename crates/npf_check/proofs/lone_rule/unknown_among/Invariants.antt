use Rattle.std.proofs.Common.{◌≡◌, None, drop}
use Rattle.npf_check.specs.{LoneRule.{table_numbers, table_places, unknown_table}, Pair.first_beside}
use Rattle.npf_check.proofs.lone_rule.unknown_among.Given as goal

abbrev pub invariant-loop-value : goal.invariant-loop-value
invariant-loop-value l = first_beside unknown_table None (table_places l.values) (table_numbers l.items)
    ≡ first_beside unknown_table l.left.first (table_places (drop l.value-index l.values)) (table_numbers l.left.rest.now)
