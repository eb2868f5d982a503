use Rattle.std.proofs.Common.{sym, subst}
use Rattle.npf_ruleset.specs.Configuration.{configuration}
use Rattle.npf_judge.specs.Says.{ClassIs}
use Rattle.npf_ctl_query.proofs.SaysLemmas.{said}
use Rattle.npf_ctl_query.proofs.says.says_of.Goals as goal

pub returns : goal.returns
returns c = λ class is.
    subst (ClassIs (configuration c.args.config.now) class) (sym c.says_by.ensures)
    (said (configuration c.args.config.now) class c.args.answer.now is c.seen-passed.result c.is_some.result c.seen-passed.ensures c.is_some.ensures)
