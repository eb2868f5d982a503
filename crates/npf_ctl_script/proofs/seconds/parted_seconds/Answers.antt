use Rattle.npf_ctl_script.proofs.seconds.parted_seconds.Goals as goal

pub returns-in_default : goal.returns-in_default
returns-in_default c = λ time h. c.in_default.ensures.value h.start h.whole
