use Rattle.std.proofs.Common.{◌≡◌, ◌≤◌, drop, max}
use Rattle.npf_pieces.specs.Sets.{reach}
use Rattle.npf_pieces.proofs.datagram.reach.Given as goal

abbrev pub invariant-loop-arrived : goal.invariant-loop-arrived
invariant-loop-arrived l = record {
  within : l.reach ≤ 65535;
  value : max l.reach (reach (drop l.arrived-index l.set)) ≡ reach l.set;
}
