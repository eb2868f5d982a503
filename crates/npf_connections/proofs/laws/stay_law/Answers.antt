use Rattle.npf_connections.proofs.StayLemmas.{known_not_freed, claimed_holds_none, holding_keeps_ways, holding_keeps_bare}
use Rattle.npf_connections.proofs.laws.stay_law.Goals as goal

pub returns-clause-unfreed : goal.returns-clause-unfreed
returns-clause-unfreed g c = known_not_freed g.L.Law.meaning

pub returns-clause-ways : goal.returns-clause-ways
returns-clause-ways g c = holding_keeps_ways g.L.Law.meaning

pub returns-clause-bare : goal.returns-clause-bare
returns-clause-bare g c = holding_keeps_bare g.L.Law.meaning

pub returns-clause-claimed : goal.returns-clause-claimed
returns-clause-claimed g c = claimed_holds_none g.L.Law.meaning
