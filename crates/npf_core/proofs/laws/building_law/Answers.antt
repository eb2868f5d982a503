use Rattle.npf_core.proofs.BuildingLemmas.{claim_builds, builds_after, holds_none_after}
use Rattle.npf_core.proofs.laws.building_law.Goals as goal

pub returns-clause-stays : goal.returns-clause-stays
returns-clause-stays g c = λ slots. builds_after g.L.Law.meaning slots

pub returns-clause-given : goal.returns-clause-given
returns-clause-given g c = λ slots. holds_none_after g.L.Law.meaning slots

pub returns-clause-claimed : goal.returns-clause-claimed
returns-clause-claimed g c = claim_builds g.L.Law.meaning
