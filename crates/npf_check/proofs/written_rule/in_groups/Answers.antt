use Rattle.std.{proofs.{Common.{◌+◌, ◌++◌, List, drop, append_assoc, ap, sym, ◌∙◌}, lemmas.List.{drop_more, drop_all}}, specs.List.flat_map}
use Rattle.npf_syntax.specs.declared.group.ItemTree.{ItemTree}
use Rattle.npf_check.specs.{Pair.first_beside, WrittenRule.{faults_of_group, items_in}}
use Rattle.npf_check.proofs.written_rule.in_groups.Goals as goal

pub loop-stmt-preserved : goal.loop-stmt-preserved
loop-stmt-preserved c = λ more.
    let left = c.loop-stmt.left in
    let i = c.loop-stmt.stmt-index in
    let behind = flat_map (items_in c.args.kind) (drop (i + 1) c.args.stmts.now) in
    let fault = λ (items : List (List ItemTree)). first_beside faults_of_group left.first items left.rest.now in
    c.loop-stmt.invariant more
    ∙ ap (λ stmts. fault (flat_map (items_in c.args.kind) stmts ++ more)) (drop_more c.args.stmts.now i c.stmt-item.result c.loop-stmt-test.true)
    ∙ ap (λ stmt. fault ((items_in c.args.kind stmt ++ behind) ++ more)) (sym c.stmt-item.is)
    ∙ ap fault (append_assoc (items_in c.args.kind c.stmt-item.result) behind more)
    ∙ c.pass.ensures (behind ++ more)

pub returns : goal.returns
returns c = λ more.
    let left = c.loop-stmt.left in
    c.loop-stmt.invariant more
    ∙ ap (λ stmts. first_beside faults_of_group left.first (flat_map (items_in c.args.kind) stmts ++ more) left.rest.now)
    (drop_all c.loop-stmt.stmt-index c.args.stmts.now c.loop-stmt-test.false)
