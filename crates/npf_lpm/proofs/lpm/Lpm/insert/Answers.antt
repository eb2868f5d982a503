use Rattle.npf_lpm.proofs.ChangeLemmas.{gains_of}
use Rattle.npf_lpm.proofs.lpm.Lpm.insert.Goals as goal

pub returns-clause-ok : goal.returns-clause-ok
returns-clause-ok c = gains_of c.args.self.now c.put.new.self c.args.prefix c.put.result c.put.ensures
