use Rattle.std.{proofs.{Common.{◌+◌, ◌++◌, drop, ap, sym, ◌∙◌}, lemmas.List.{drop_more, drop_all}}, specs.List.flat_map}
use Rattle.npf_faults.proofs.FirstLemmas.{earlier-none}
use Rattle.npf_check.specs.Duplicate.{first_again, rulesets_of_stmt}
use Rattle.npf_check.proofs.duplicate.repeated_ruleset.Goals as goal

pub loop-stmt-preserved : goal.loop-stmt-preserved
loop-stmt-preserved c =
    let now = c.loop-stmt.so_far in
    let i = c.loop-stmt.stmt-index in
    let behind = flat_map rulesets_of_stmt (drop (i + 1) c.args.stmts.now) in
    c.loop-stmt.invariant
    ∙ ap (λ stmts. first_again now (flat_map rulesets_of_stmt stmts)) (drop_more c.args.stmts.now i c.stmt-item.result c.loop-stmt-test.true)
    ∙ ap (λ stmt. first_again now (rulesets_of_stmt stmt ++ behind)) (sym c.stmt-item.is)
    ∙ ap (λ given. first_again now (given ++ behind)) (sym c.items_of.ensures)
    ∙ c.in_ok-meet_rulesets.ensures behind

pub returns : goal.returns
returns c =
    sym (c.loop-stmt.invariant
    ∙ ap (λ stmts. first_again c.loop-stmt.so_far (flat_map rulesets_of_stmt stmts)) (drop_all c.loop-stmt.stmt-index c.args.stmts.now c.loop-stmt-test.false)
    ∙ earlier-none c.loop-stmt.so_far.first)
