use Rattle.std.proofs.lemmas.Result.{err_from_is_err_and}
use Rattle.npf_config_changes.{specs.Additions.meant, proofs.ReadLemmas.{checks_refused, meaning_refused}}
use Rattle.npf_config_changes.proofs.text.mean_rule.Goals as goal

pub returns-in_err-rule-clause-err : goal.returns-in_err-rule-clause-err
returns-in_err-rule-clause-err c =
    let p = err_from_is_err_and c.from_residual.result c.from_residual.ensures.1 in
    rw (p.1, p.2) (meaning_refused c.args.ifaces.now.list c.args.model.now c.args.tree.now c.in_err-rule.field-0.0 c.in_err-rule.ensures.refused)

pub returns-in_err-check_rule-clause-err : goal.returns-in_err-check_rule-clause-err
returns-in_err-check_rule-clause-err c =
    let p = err_from_is_err_and c.from_residual-in_err-check_rule.result c.from_residual-in_err-check_rule.ensures.1 in
    rw (p.1, p.2) (checks_refused c.args.ifaces.now.list c.args.model.now c.args.tree.now c.in_ok-rule.rule c.in_ok-rule.ensures.ok c.in_err-check_rule.field-0.0 c.in_err-check_rule.ensures.err)

pub returns-clause-ok : goal.returns-clause-ok
returns-clause-ok c = meant c.in_ok-rule.ensures.ok c.in_ok-check_rule.ensures.ok
