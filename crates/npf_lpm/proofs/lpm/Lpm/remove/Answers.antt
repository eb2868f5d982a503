use Rattle.npf_lpm.proofs.ChangeLemmas.{loses_of}
use Rattle.npf_lpm.proofs.lpm.Lpm.remove.Goals as goal

pub returns-clause-changes : goal.returns-clause-changes
returns-clause-changes c = loses_of c.args.self.now c.take.new.self c.args.prefix c.take.result c.take.ensures
