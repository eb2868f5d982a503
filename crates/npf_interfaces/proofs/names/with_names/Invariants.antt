use Rattle.std.proofs.Common.{◌≡◌, take}
use Rattle.npf_interfaces.specs.Names.{with_names}
use Rattle.npf_interfaces.proofs.names.with_names.Given as goal

abbrev pub invariant-loop-name : goal.invariant-loop-name
invariant-loop-name l = l.list.items ≡ with_names l.fn.ifaces.list (take l.name-index l.names)
