use Rattle.std.proofs.Common.{◌≡◌, length}
use Rattle.npf_check.specs.WrittenMap.{is_table}
use Rattle.npf_why_map.specs.Side.{is_table_if, tables_after}
use Rattle.npf_why_map.proofs.side.is_table.Given as goal

abbrev pub invariant-stmts : goal.invariant-stmts
invariant-stmts l = is_table (tables_after l.fn.before) l.fn.value ≡ is_table_if (tables_after l.rest) l.table

abbrev pub decreases-stmts : goal.decreases-stmts
decreases-stmts l = length l.rest
