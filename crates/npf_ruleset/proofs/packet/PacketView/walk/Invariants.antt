use Rattle.npf_ruleset.proofs.WalkLemmas.{Remains}
use Rattle.npf_ruleset.proofs.packet.PacketView.walk.Given as goal

abbrev pub invariant-loop-group : goal.invariant-loop-group
invariant-loop-group l = Remains l.config l.self l.first l.group-index l.rules
