use Rattle.std.proofs.Common.{◌≡◌, ◌+◌, drop}
use Rattle.npf_model.specs.{Numbering.is_named, Verdict.first_where}
use Rattle.npf_model.proofs.iface.number_of_name.Given as goal

abbrev pub invariant-loop-iface : goal.invariant-loop-iface
invariant-loop-iface l = record {
  counted : l.place ≡ l.iface-index + 1;
  behind : first_where (is_named l.fn.name) 1 l.fn.ifaces ≡ first_where (is_named l.fn.name) l.place (drop l.iface-index l.fn.ifaces);
}
