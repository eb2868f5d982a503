use Rattle.std.proofs.Common.{◌≡◌, ◌++◌, take}
use Rattle.npf_compare_maps.proofs.products.add_tables.Given as goal

abbrev pub invariant-loop-table : goal.invariant-loop-table
invariant-loop-table l = l.tables.items ≡ l.initial.tables.items ++ take l.table-index l.added
