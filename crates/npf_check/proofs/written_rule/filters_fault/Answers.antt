use Rattle.std.{proofs.{Common.{◌+◌, ◌++◌, List, Option, drop, ap, sym, ◌∙◌}, lemmas.List.{drop_more, drop_all}}, specs.List.flat_map}
use Rattle.npf_syntax.specs.declared.filter.Filter.{Filter}
use Rattle.npf_faults.proofs.FirstLemmas.{earlier-none}
use Rattle.npf_check.specs.{Pair.first_beside, WrittenRule.{faults_of_pass, pass_of_map}}
use Rattle.npf_check.proofs.written_rule.filters_fault.Goals as goal

pub loop-stmt-preserved : goal.loop-stmt-preserved
loop-stmt-preserved c =
    let left = c.loop-stmt.left in
    let i = c.loop-stmt.stmt-index in
    let behind = flat_map pass_of_map (drop (i + 1) c.args.stmts.now) in
    let fault = λ (filters : List (Option Filter)). first_beside faults_of_pass left.first filters left.rest.now in
    c.loop-stmt.invariant
    ∙ ap (λ stmts. fault (flat_map pass_of_map stmts)) (drop_more c.args.stmts.now i c.stmt-item.result c.loop-stmt-test.true)
    ∙ ap (λ stmt. fault (pass_of_map stmt ++ behind)) (sym c.stmt-item.is)
    ∙ c.pass.ensures behind

pub returns : goal.returns
returns c =
    let left = c.loop-stmt.left in
    sym (c.loop-stmt.invariant
    ∙ ap (λ stmts. first_beside faults_of_pass left.first (flat_map pass_of_map stmts) left.rest.now)
    (drop_all c.loop-stmt.stmt-index c.args.stmts.now c.loop-stmt-test.false)
    ∙ earlier-none left.first)
