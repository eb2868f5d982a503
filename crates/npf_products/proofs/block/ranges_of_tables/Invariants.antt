use Rattle.std.proofs.Common.{◌≡◌, take}
use Rattle.npf_products.specs.Condition.{table_ranges}
use Rattle.npf_products.proofs.block.ranges_of_tables.Given as goal

abbrev pub invariant-loop-table : goal.invariant-loop-table
invariant-loop-table l = l.made.items ≡ table_ranges l.family (take l.table-index l.tables)
