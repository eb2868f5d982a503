use Rattle.npf_nat.proofs.{NetmapLemmas.netmap_back, NptLemmas.npt66_back}
use Rattle.npf_nat.proofs.laws.static_map_comes_back.Goals as goal

pub returns-clause-netmap : goal.returns-clause-netmap
returns-clause-netmap c = netmap_back

pub returns-clause-npt66 : goal.returns-clause-npt66
returns-clause-npt66 c = npt66_back
