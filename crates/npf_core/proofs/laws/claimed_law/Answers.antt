use Rattle.npf_core.proofs.{BuildingLemmas.claimed_after, ClaimedLemmas.{was_claimed, was_not_freed}}
use Rattle.npf_core.proofs.laws.claimed_law.Goals as goal

pub returns-clause-claimed : goal.returns-clause-claimed
returns-clause-claimed g c = λ slots. was_claimed g.L.Law.meaning slots

pub returns-clause-stays : goal.returns-clause-stays
returns-clause-stays g c = λ slots. claimed_after g.L.Law.meaning slots

pub returns-clause-unfreed : goal.returns-clause-unfreed
returns-clause-unfreed g c = λ slots. was_not_freed g.L.Law.meaning slots
