use Rattle.npf_paths.proofs.FillingLemmas.{filled_places, filled_ends, filled_back}
use Rattle.npf_paths.proofs.laws.filling_law.Goals as goal

pub returns-clause-places : goal.returns-clause-places
returns-clause-places c = λ digits cell cell' level p q fills. (filled_places (filled_back fills), filled_places fills)

pub returns-clause-ends : goal.returns-clause-ends
returns-clause-ends c = λ digits cell cell' level p q fills. (filled_ends (filled_back fills), filled_ends fills)
