use Rattle.std.proofs.Common.{inl, inr}
use Rattle.npf_ctl_aging_law.proofs.MultipleLemmas.{at_last_only, due_at_last}
use Rattle.npf_ctl_aging_law.proofs.one_expiry_is_enough.Goals as goal

pub returns-clause-enough : goal.returns-clause-enough
returns-clause-enough c = λ seconds time stage some.
    (at_last_only seconds time stage, due_at_last c.due_by_idle_time.ensures.stays seconds time stage some)

pub returns-clause-kills : goal.returns-clause-kills
returns-clause-kills c = λ seconds time count old new some expires id live throughout.
    elim (expires.left id live) [
      | inl killed ↦ killed
      | inr idle ↦ absurd (idle.idle (due_at_last c.due_by_idle_time.ensures.stays seconds time _ some (throughout idle.point idle.begins idle.goes_on)))
    ]
