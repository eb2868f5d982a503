use Rattle.std.{proofs.{Common.{◌≡◌, ◌+◌, Some, ◌++◌, drop, slice_get, sym, ap, subst, ◌∙◌}, lemmas.List.drop_more}, specs.List.flat_map}
use Rattle.npf_faults.specs.First.{first_fault}
use Rattle.npf_check.{specs.Limit.{FindsPlace, limited_places, past_limit}, proofs.LimitLemmas.{get-front, get-behind}}
use Rattle.npf_check.proofs.limit.past.Goals as goal

pub returns-in-At : goal.returns-in-At
returns-in-At c =
    let q = c.args.quantity in
    let i = c.loop-stmt.stmt-index in
    let here = subst (FindsPlace (limited_places q c.stmt-item.result) c.loop-stmt.left) c.in-At.is c.find_in_stmt.ensures in
    let rest = flat_map (limited_places q) (drop (i + 1) c.args.stmts.now) in
    let there : slice_get (flat_map (limited_places q) (drop i c.args.stmts.now)) c.loop-stmt.left ≡ Some c.in-At.span =
    ap (λ stmts. slice_get (flat_map (limited_places q) stmts) c.loop-stmt.left) (drop_more c.args.stmts.now i c.stmt-item.result c.loop-stmt-test.true)
    ∙ ap (λ stmt. slice_get (limited_places q stmt ++ rest) c.loop-stmt.left) (sym c.stmt-item.is)
    ∙ get-front (limited_places q c.stmt-item.result) rest c.loop-stmt.left c.in-At.span here in
    ap (λ found. first_fault (past_limit q c.args.most found)) (sym (c.loop-stmt.invariant ∙ there))

pub loop-stmt-preserved : goal.loop-stmt-preserved
loop-stmt-preserved c =
    let q = c.args.quantity in
    let i = c.loop-stmt.stmt-index in
    let here = subst (FindsPlace (limited_places q c.stmt-item.result) c.loop-stmt.left) c.in-Later.is c.find_in_stmt.ensures in
    let rest = flat_map (limited_places q) (drop (i + 1) c.args.stmts.now) in
    c.loop-stmt.invariant
    ∙ ap (λ stmts. slice_get (flat_map (limited_places q) stmts) c.loop-stmt.left) (drop_more c.args.stmts.now i c.stmt-item.result c.loop-stmt-test.true)
    ∙ ap (λ stmt. slice_get (limited_places q stmt ++ rest) c.loop-stmt.left) (sym c.stmt-item.is)
    ∙ get-behind (limited_places q c.stmt-item.result) rest c.loop-stmt.left c.in-Later.later here
