use Rattle.std.proofs.Common.{◌+◌, ◌-◌, ◌≤◌, take, length, vec_len, vec_capacity}
use Rattle.npf_ctl_output.specs.Crossings.{AreCrossingsOf}
use Rattle.npf_ctl_output.proofs.crossings.crossings_of.Given as goal

abbrev pub invariant-loop-iface : goal.invariant-loop-iface
invariant-loop-iface l = record {
  so_far : AreCrossingsOf (take l.iface-index l.list) l.crossings.items;
  room : vec_len l.crossings + (length l.list - l.iface-index) ≤ vec_capacity l.crossings;
}
