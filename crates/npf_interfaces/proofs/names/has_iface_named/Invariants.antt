use Rattle.std.proofs.Common.{◌≡◌, false, take}
use Rattle.npf_interfaces.specs.Names.{has_iface_named}
use Rattle.npf_interfaces.proofs.names.has_iface_named.Given as goal

abbrev pub invariant-loop-iface : goal.invariant-loop-iface
invariant-loop-iface l = has_iface_named (take l.iface-index l.ifaces) l.name ≡ false
