use Rattle.npf_connections.proofs.AddLemmas.{adds_more, adds_alone}
use Rattle.npf_connections.proofs.laws.add_law.Goals as goal

pub returns-clause-more : goal.returns-clause-more
returns-clause-more g c = adds_more

pub returns-clause-alone : goal.returns-clause-alone
returns-clause-alone g c = adds_alone g.L.Law.meaning
