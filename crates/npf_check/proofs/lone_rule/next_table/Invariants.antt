use Rattle.std.proofs.Common.{◌≡◌, length}
use Rattle.npf_check.specs.LoneRule.{table_numbers}
use Rattle.npf_check.proofs.lone_rule.next_table.Given as goal

abbrev pub invariant-items : goal.invariant-items
invariant-items l = table_numbers l.rest ≡ table_numbers l.fn.items

abbrev pub decreases-items : goal.decreases-items
decreases-items l = length l.rest
