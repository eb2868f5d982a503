use Rattle.std.{proofs.Common.{◌≡◌, ◌++◌, take}, specs.List.flat_map}
use Rattle.npf_interfaces.specs.Names.{entry_names}
use Rattle.npf_interfaces.proofs.names.push_item.Given as goal

abbrev pub invariant-loop-entry : goal.invariant-loop-entry
invariant-loop-entry l = l.names.items ≡ l.initial.names.items ++ flat_map entry_names (take l.entry-index l.entry-items)
