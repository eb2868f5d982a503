use Rattle.npf_ruleset.proofs.RowLemmas.{added_bit, kept_bit}
use Rattle.npf_ruleset.proofs.protocol_set.ProtocolSet.with.Goals as goal

pub returns-clause-added : goal.returns-clause-added
returns-clause-added c = added_bit c.args.self.bits c.args.proto

pub returns-clause-kept : goal.returns-clause-kept
returns-clause-kept c = λ other set. kept_bit c.args.self.bits _ other set
