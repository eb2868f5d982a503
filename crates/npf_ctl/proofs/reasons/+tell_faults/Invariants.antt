use Rattle.npf_ctl.proofs.reasons.+tell_faults.Given as goal

abbrev pub decreases-tell_faults : goal.decreases-tell_faults
decreases-tell_faults g l = l.more
