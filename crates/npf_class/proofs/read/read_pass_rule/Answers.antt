use Rattle.std.proofs.Common.{◌≡◌, Err, rules}
use Rattle.npf_config_changes.specs.Told.{EndsUnlessMemory}
use Rattle.npf_class.{specs.Class.MeansPassRule, proofs.ClassLemmas.{meaning, meaningless, unread}}
use Rattle.npf_class.proofs.read.read_pass_rule.Goals as goal

pub returns-in_err-tree-clause-err : goal.returns-in_err-tree-clause-err
returns-in_err-tree-clause-err c =
    let fault = c.in_err-tree.field-0.0 in
    let same : c.from_residual.result ≡ Err fault = search rules in
    let ends : EndsUnlessMemory (MeansPassRule c.args.ifaces.now.list c.args.model.now c.args.text.now) fault =
    unread c.args.ifaces.now.list c.args.model.now c.args.text.now fault c.in_err-tree.ensures.err in
    rw same ends

pub returns-clause-ok : goal.returns-clause-ok
returns-clause-ok c =
    meaning c.args.ifaces.now.list c.args.model.now c.args.text.now c.in_ok-tree.tree c.in_ok-tree.ensures.ok c.mean_rule.result c.mean_rule.ensures.ok

pub returns-clause-err : goal.returns-clause-err
returns-clause-err c =
    meaningless c.args.ifaces.now.list c.args.model.now c.args.text.now c.in_ok-tree.tree c.in_ok-tree.ensures.ok c.mean_rule.result c.mean_rule.ensures.err
