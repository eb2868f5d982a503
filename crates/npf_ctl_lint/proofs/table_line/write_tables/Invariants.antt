use Rattle.std.proofs.Common.{◌≡◌, ◌++◌, drop, length, zip}
use Rattle.std.specs.List.{flat_map}
use Rattle.npf_ctl_lint.specs.TableLine.{found_table_line}
use Rattle.npf_ctl_lint.proofs.table_line.write_tables.Given as goal

-- what was told, and then the lines that are left
abbrev pub invariant-loop-table : goal.invariant-loop-table
invariant-loop-table l = record {
  can : (goal.iterator-loop-table).can_next l.table-iterator;
  finite : (goal.iterator-loop-table).is_finite l.table-iterator;
  so_far : l.initial.into.items ++ flat_map found_table_line (zip l.tables l.found)
      ≡ l.into.items ++ flat_map found_table_line (drop (length l.yielded) (zip l.tables l.found));
}
