use Rattle.npf_runner_passes.proofs.WholeLemmas.{gathers_all}
use Rattle.npf_runner_passes.proofs.laws.gathering_law.Goals as goal

pub returns : goal.returns
returns g c = gathers_all g.L.Law.meaning
