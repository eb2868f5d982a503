use Rattle.std.proofs.Common.{sym}
use Rattle.npf_faults.proofs.FirstLemmas.{is_first_fault, no_first_fault}
use Rattle.npf_check.specs.LoneRule.{lone_faults}
use Rattle.npf_check.proofs.lone_rule.check_rule.Goals as goal

pub returns-in-Some-clause-err : goal.returns-in-Some-clause-err
returns-in-Some-clause-err c =
    is_first_fault (lone_faults c.args.tree.now c.args.rule.now) c.in-Some.fault (sym c.in-Some.ensures)

pub returns-in-None-clause-ok : goal.returns-in-None-clause-ok
returns-in-None-clause-ok c =
    no_first_fault (lone_faults c.args.tree.now c.args.rule.now) (sym c.in-None.ensures)
