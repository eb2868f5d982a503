use Rattle.std.proofs.Common.{◌≡◌, take}
use Rattle.npf_ruleset.specs.Tables.{entries}
use Rattle.npf_config.specs.Tables.{entry_count}
use Rattle.npf_config_changes.specs.Told.{told_count}
use Rattle.npf_config_changes.proofs.entries.entry_count.Given as goal

abbrev pub invariant-loop-table : goal.invariant-loop-table
invariant-loop-table l = l.count ≡ told_count (entry_count (take l.table-index (entries l.tables)))
