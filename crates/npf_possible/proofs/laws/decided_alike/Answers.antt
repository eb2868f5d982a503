use Rattle.npf_possible.proofs.TestedLemmas.{map_places_alike, verdicts_alike}
use Rattle.npf_possible.proofs.laws.decided_alike.Goals as goal

pub returns-clause-verdicts : goal.returns-clause-verdicts
returns-clause-verdicts c = verdicts_alike

pub returns-clause-maps : goal.returns-clause-maps
returns-clause-maps c = map_places_alike
