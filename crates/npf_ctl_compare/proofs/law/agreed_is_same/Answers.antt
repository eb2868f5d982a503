use Rattle.npf_ctl_compare.specs.Loaded.{compare_ifaces, new_numbered, old_numbered}
use Rattle.npf_ctl_compare.proofs.SameLemmas.{agreed_same}
use Rattle.npf_ctl_compare.proofs.law.agreed_is_same.Goals as goal

pub returns : goal.returns
returns c = λ given old new same text answers.
    agreed_same (compare_ifaces given old new) (old_numbered given old new) (new_numbered given old new) same text answers.told
