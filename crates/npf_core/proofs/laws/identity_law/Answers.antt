use Rattle.npf_core.proofs.IdentityLemmas.{claims_once, counts_incarnations}
use Rattle.npf_core.proofs.laws.identity_law.Goals as goal

pub returns-clause-once : goal.returns-clause-once
returns-clause-once g c = λ slots. claims_once g.L.Law.meaning slots

pub returns-clause-fits : goal.returns-clause-fits
returns-clause-fits g c = λ slots. counts_incarnations g.L.Law.meaning slots
