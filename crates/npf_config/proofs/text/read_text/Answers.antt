use Rattle.std.proofs.{Common.{◌≡◌, Err, rules}, lemmas.Result.err_from_is_err_and}
use Rattle.npf_config.proofs.FaultLemmas.{checks_refused, meaning_refused}
use Rattle.npf_config.proofs.text.read_text.Goals as goal

pub returns-in_err-tree-clause-refuses : goal.returns-in_err-tree-clause-refuses
returns-in_err-tree-clause-refuses c =
    let same : c.from_residual.result ≡ Err c.in_err-tree.field-0.0 = search rules in
    rw same (c.in_err-tree.ensures.refuses c.args.ifaces.now.list)

pub returns-in_err-model-clause-refuses : goal.returns-in_err-model-clause-refuses
returns-in_err-model-clause-refuses c =
    let p = err_from_is_err_and c.from_residual-in_err-model.result c.from_residual-in_err-model.ensures.1 in
    rw (p.1, p.2) (meaning_refused c.args.ifaces.now.list c.args.text.now c.in_ok-tree.tree c.in_ok-tree.ensures.ok c.in_err-model.field-0.0 c.in_err-model.ensures.refused)

pub returns-in_err-check-clause-refuses : goal.returns-in_err-check-clause-refuses
returns-in_err-check-clause-refuses c =
    let p = err_from_is_err_and c.from_residual-in_err-check.result c.from_residual-in_err-check.ensures.1 in
    rw (p.1, p.2)
    (checks_refused c.args.ifaces.now.list c.args.text.now c.in_ok-tree.tree c.in_ok-model.model
    c.in_ok-tree.ensures.ok c.in_ok-model.ensures.ok c.in_err-check.field-0.0 c.in_err-check.ensures.err)
