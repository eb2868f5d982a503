use Rattle.std.proofs.Common.{◌≡◌, take}
use Rattle.npf_ruleset.specs.Tables.{entries}
use Rattle.npf_ctl_explain.proofs.class.tables_of.Given as goal

abbrev pub invariant-loop-table : goal.invariant-loop-table
invariant-loop-table l = l.made.items ≡ entries (take l.table-index l.tables)
