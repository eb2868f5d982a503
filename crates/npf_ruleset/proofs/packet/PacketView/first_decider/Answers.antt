use Rattle.std.proofs.Common.{sym}
use Rattle.npf_ruleset.proofs.FinalLemmas.{none_decides}
use Rattle.npf_ruleset.proofs.packet.PacketView.first_decider.Goals as goal

pub returns-else-finals-clause-value : goal.returns-else-finals-clause-value
returns-else-finals-clause-value c = sym (none_decides c.args.self.now 0 c.args.rules.now (c.requires c.if-finals.false))
