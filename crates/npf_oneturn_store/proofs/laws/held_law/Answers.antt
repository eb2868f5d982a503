use Rattle.npf_oneturn_store.proofs.RepresentLemmas.{shows_kept}
use Rattle.npf_oneturn_store.proofs.laws.held_law.Goals as goal

pub returns-clause-kept : goal.returns-clause-kept
returns-clause-kept g c = shows_kept g.row.L-State.Denot
