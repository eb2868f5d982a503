use Rattle.std.{proofs.Common.{◌≡◌, ◌++◌, take}, specs.List.flat_map}
use Rattle.npf_interfaces.specs.Names.{group_names}
use Rattle.npf_interfaces.proofs.names.push_groups.Given as goal

abbrev pub invariant-loop-group : goal.invariant-loop-group
invariant-loop-group l = l.names.items ≡ l.initial.names.items ++ flat_map group_names (take l.group-index l.groups)
