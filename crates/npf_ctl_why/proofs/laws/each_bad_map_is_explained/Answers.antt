use Rattle.npf_ctl_why.proofs.LawLemmas.{explained}
use Rattle.npf_ctl_why.proofs.laws.each_bad_map_is_explained.Goals as goal

pub returns : goal.returns
returns c = λ ifaces text tree model fault out means listed said.
    explained c.one_tree.ensures ifaces text tree model means c.each_bad_map_has_reason.ensures c.each_reason_is_of_map.ensures fault out listed said
