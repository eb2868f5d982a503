-- What the options say that were passed.
use Rattle.std.proofs.Common.{◌-◌, ◌≤◌}
use Rattle.npf_packet.proofs.TcpOptionLemmas.{HasRead}
use Rattle.npf_packet.proofs.tcp_option.options_between.Given as goal

abbrev pub invariant-options : goal.invariant-options
invariant-options l = record {
  before : l.at ≤ l.to;
  read : HasRead l.bytes l.from l.to l.at l.scale l.mss;
}

abbrev pub decreases-options : goal.decreases-options
decreases-options l = l.to - l.at
