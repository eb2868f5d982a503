use Rattle.std.{proofs.Common.{◌≡◌, map, take}, specs.Arc.arc_value}
use Rattle.npf_config_changes.proofs.shared.shared.Given as goal

abbrev pub invariant-loop-table : goal.invariant-loop-table
invariant-loop-table l = map arc_value l.shared.items ≡ map arc_value (take l.table-index l.tables)
