use Rattle.npf_ctl_check.proofs.told.found_first.Goals as goal

pub returns-clause-first : goal.returns-clause-first
returns-clause-first c = c.first_treating-found.ensures.first c.args.class.now (rw (c.model.ensures, c.requires) at c.in_ok-answer.ensures.answer)
