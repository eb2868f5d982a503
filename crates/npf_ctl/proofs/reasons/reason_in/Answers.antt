use Rattle.npf_ctl.proofs.reasons.reason_in.Goals as goal

pub returns-in-First-clause-tells : goal.returns-in-First-clause-tells
returns-in-First-clause-tells g c = λ before after around. rw c.in-First.is c.reason_of.ensures

pub returns-in-Each-clause-tells : goal.returns-in-Each-clause-tells
returns-in-Each-clause-tells g c = λ before after around. rw c.in-Each.is (c.reasons_of.ensures.tells before after around)
