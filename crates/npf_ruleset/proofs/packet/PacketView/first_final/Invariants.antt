use Rattle.std.proofs.Common.{◌≡◌, drop}
use Rattle.npf_model.specs.Verdict.{first_where}
use Rattle.npf_ruleset.specs.Packet.{flat_decides}
use Rattle.npf_ruleset.proofs.packet.PacketView.first_final.Given as goal

abbrev pub invariant-loop-at : goal.invariant-loop-at
invariant-loop-at l = first_where (flat_decides l.self) 0 l.rules ≡ first_where (flat_decides l.self) l.at (drop l.at l.rules)
