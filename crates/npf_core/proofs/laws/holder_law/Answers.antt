use Rattle.npf_core.proofs.HolderLemmas.{claim_with_none, hold_one_a_way, holders_claimed, unclaimed_hold_none}
use Rattle.npf_core.proofs.laws.holder_law.Goals as goal

pub returns-clause-claimed : goal.returns-clause-claimed
returns-clause-claimed g c = λ slots. holders_claimed g.L.Law.meaning slots

pub returns-clause-unclaimed : goal.returns-clause-unclaimed
returns-clause-unclaimed g c = λ slots. unclaimed_hold_none g.L.Law.meaning slots

pub returns-clause-new : goal.returns-clause-new
returns-clause-new g c = λ slots. claim_with_none g.L.Law.meaning slots

pub returns-clause-one : goal.returns-clause-one
returns-clause-one g c = λ slots. hold_one_a_way g.L.Law.meaning slots
