use Rattle.npf_why_map.proofs.LawLemmas.{each_bad_map_has_reason_lem}
use Rattle.npf_why_map.proofs.laws.each_bad_map_has_reason.Goals as goal

pub returns : goal.returns
returns c = each_bad_map_has_reason_lem
