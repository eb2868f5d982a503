use Rattle.std.proofs.Common.{◌≡◌, map, take}
use Rattle.npf_why.specs.Known.{iface_text}
use Rattle.npf_why.proofs.known.interfaces.Given as goal

abbrev pub invariant-ifaces : goal.invariant-ifaces
invariant-ifaces l = record {
  so_far : map (λ name. name.now) l.names.items ≡ map iface_text (take l.iface-index l.fn.list);
}
