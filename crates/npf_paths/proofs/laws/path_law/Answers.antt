use Rattle.std.proofs.Common.{refl}
use Rattle.npf_paths.proofs.PathLemmas.{one_place, one_end, none_behind_end, same_places, same_places_back, same_end, same_end_back}
use Rattle.npf_paths.proofs.laws.path_law.Goals as goal

pub returns-clause-level : goal.returns-clause-level
returns-clause-level c = λ digits cell level p q on on'. one_place on on' refl

pub returns-clause-one_end : goal.returns-clause-one_end
returns-clause-one_end c = λ digits cell level level' p q ends ends'. one_end ends ends'

pub returns-clause-behind : goal.returns-clause-behind
returns-clause-behind c = λ digits cell level level' p q ends on. none_behind_end ends on

pub returns-clause-places : goal.returns-clause-places
returns-clause-places c = λ digits cell cell' level p agrees. (same_places agrees, same_places_back agrees)

pub returns-clause-same_end : goal.returns-clause-same_end
returns-clause-same_end c = λ digits cell cell' level p agrees. (same_end agrees, same_end_back agrees)
