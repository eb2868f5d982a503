use Rattle.npf_why_map.proofs.ReasonLemmas.{reasons_are_of_bad_maps_lem}
use Rattle.npf_why_map.proofs.laws.reasons_are_of_bad_maps.Goals as goal

pub returns : goal.returns
returns c = reasons_are_of_bad_maps_lem
