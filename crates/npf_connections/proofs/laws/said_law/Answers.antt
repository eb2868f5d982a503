use Rattle.npf_connections.proofs.SaidLemmas.{did_nothing, did_more, did_abandon}
use Rattle.npf_connections.proofs.laws.said_law.Goals as goal

pub returns-clause-nothing : goal.returns-clause-nothing
returns-clause-nothing g c = did_nothing

pub returns-clause-more : goal.returns-clause-more
returns-clause-more g c = did_more

pub returns-clause-abandon : goal.returns-clause-abandon
returns-clause-abandon g c = did_abandon g.L.Law.meaning
