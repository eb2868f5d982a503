use Rattle.std.proofs.Common.{◌≡◌, map, take}
use Rattle.npf_config_reload.specs.Taken.{table_in}
use Rattle.npf_config_reload.proofs.again.tables_in.Given as goal

abbrev pub invariant-loop-table : goal.invariant-loop-table
invariant-loop-table l = l.places.items ≡ map (table_in l.file) (take l.table-index l.tables)
