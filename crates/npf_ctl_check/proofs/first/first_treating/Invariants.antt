use Rattle.std.proofs.Common.{ℕ, ◌<◌, None}
use Rattle.npf_ctl_check.specs.First.{ShowsRule}
use Rattle.npf_ctl_check.proofs.first.first_treating.Given as goal

-- no rule before this place is shown to treat a packet so
abbrev pub invariant-loop-place : goal.invariant-loop-place
invariant-loop-place l = (p : ℕ) → p < l.place → ShowsRule l.config.model l.answer.rules.items l.passed p None
