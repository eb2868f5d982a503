use Rattle.std.proofs.Common.{arith}
use Rattle.npf_ruleset.specs.Configuration.{configuration}
use Rattle.npf_ctl_check.proofs.FirstLemmas.{none_first}
use Rattle.npf_ctl_check.proofs.first.first_treating.Goals as goal

pub returns-clause-first : goal.returns-clause-first
returns-clause-first c = λ class is.
    none_first (configuration c.args.config.now) class c.args.answer.now is c.args.passed
    (λ p low. c.loop-place.invariant p (omega (arith, low, c.loop-place-test.false, c.len-place-end.ensures))) c.shown_for_none.result c.shown_for_none.ensures
