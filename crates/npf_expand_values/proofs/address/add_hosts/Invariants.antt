use Rattle.std.proofs.Common.{◌≡◌, ◌++◌, map, take}
use Rattle.npf_expand_values.specs.Address.{host_item}
use Rattle.npf_expand_values.proofs.address.add_hosts.Given as goal

abbrev pub invariant-loop-addr : goal.invariant-loop-addr
invariant-loop-addr l = record { so_far : l.items.items ≡ l.fn.items.items ++ map host_item (take l.addr-index l.fn.addrs) }
