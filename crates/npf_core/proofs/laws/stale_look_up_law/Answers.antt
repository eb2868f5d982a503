use Rattle.npf_core.proofs.LookUpLemmas.{looks_up_stale}
use Rattle.npf_core.proofs.laws.stale_look_up_law.Goals as goal

pub returns : goal.returns
returns g c = λ slots. looks_up_stale g.L.Law.meaning slots
