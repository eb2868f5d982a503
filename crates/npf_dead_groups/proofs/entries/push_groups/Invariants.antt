use Rattle.std.proofs.Common.{◌≡◌, ◌++◌, map, take}
use Rattle.npf_dead_groups.specs.Entries.{group_entry}
use Rattle.npf_dead_groups.proofs.entries.push_groups.Given as goal

-- those of the groups so far
abbrev pub invariant-loop-group : goal.invariant-loop-group
invariant-loop-group l = l.entries.items ≡ l.initial.entries.items ++ map (group_entry l.every) (take l.group-index l.groups)
