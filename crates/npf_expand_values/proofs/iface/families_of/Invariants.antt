use Rattle.std.{proofs.Common.{◌≡◌, map, take}, specs.List.filter}
use Rattle.npf_expand_values.specs.Parted.{is_v4, is_v6}
use Rattle.npf_expand_values.proofs.iface.families_of.Given as goal

abbrev pub invariant-loop-iface : goal.invariant-loop-iface
invariant-loop-iface l = record {
  v4 : map (λ family. family.v4.items) l.families.items ≡ map (λ iface. filter is_v4 iface.addrs) (take l.iface-index l.fn.list);
  v6 : map (λ family. family.v6.items) l.families.items ≡ map (λ iface. filter is_v6 iface.addrs) (take l.iface-index l.fn.list);
}
