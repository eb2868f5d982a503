use Rattle.std.proofs.Common.{◌≡◌, ◌++◌, drop, length, zip}
use Rattle.std.specs.List.{flat_map}
use Rattle.npf_ctl_lint.specs.GroupLine.{found_group_line}
use Rattle.npf_ctl_lint.proofs.group_line.write_groups.Given as goal

-- what was told, and then the lines that are left
abbrev pub invariant-loop-group : goal.invariant-loop-group
invariant-loop-group l = record {
  can : (goal.iterator-loop-group).can_next l.group-iterator;
  finite : (goal.iterator-loop-group).is_finite l.group-iterator;
  so_far : l.initial.into.items ++ flat_map found_group_line (zip l.groups l.found)
      ≡ l.into.items ++ flat_map found_group_line (drop (length l.yielded) (zip l.groups l.found));
}
