use Rattle.npf_why_map.proofs.LawLemmas.{each_reason_is_of_map_lem}
use Rattle.npf_why_map.proofs.laws.each_reason_is_of_map.Goals as goal

pub returns : goal.returns
returns c = each_reason_is_of_map_lem
