use Rattle.npf_ctl_prepare.proofs.LawLemmas.{run_lasts}
use Rattle.npf_ctl_prepare.proofs.laws.contents_decide.Goals as goal

pub returns : goal.returns
returns c = λ names tree before after result told well.
    run_lasts tree before after told well c.contents_decide.ensures.files c.contents_decide.ensures.interfaces c.contents_decide.ensures.configurations names result
