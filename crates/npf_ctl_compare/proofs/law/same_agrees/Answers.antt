use Rattle.std.proofs.Common.{true, refl}
use Rattle.npf_ctl_compare.specs.Loaded.{compare_ifaces, new_numbered, old_numbered}
use Rattle.npf_ctl_compare.proofs.SameLemmas.{same_agreed}
use Rattle.npf_ctl_compare.proofs.law.same_agrees.Goals as goal

pub returns : goal.returns
returns c = λ given old new text answers.
    same_agreed (compare_ifaces given old new) (old_numbered given old new) (new_numbered given old new) true text answers.told
    c.no_difference_is_alike.ensures c.untold_is_same.ensures refl
