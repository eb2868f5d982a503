use Rattle.std.proofs.Common.{◌≡◌, take}
use Rattle.npf_model.specs.Verdict.{last_where}
use Rattle.npf_ruleset.specs.Packet.{is_other}
use Rattle.npf_ruleset.proofs.packet.PacketView.last_other.Given as goal

abbrev pub invariant-loop-at : goal.invariant-loop-at
invariant-loop-at l = last_where (is_other l.self) 0 l.rules ≡ last_where (is_other l.self) 0 (take l.at l.rules)
