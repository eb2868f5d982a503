use Rattle.std.proofs.{Common.{◌+◌, ◌∷◌, drop, ap, sym, ◌∙◌}, lemmas.List.{drop_more, drop_all}}
use Rattle.npf_faults.proofs.FirstLemmas.{earlier-none}
use Rattle.npf_check.specs.Map.{first_bad}
use Rattle.npf_check.proofs.map.map_fault.Goals as goal

pub loop-stmt-preserved : goal.loop-stmt-preserved
loop-stmt-preserved c =
    let now = c.loop-stmt.so_far in
    let i = c.loop-stmt.stmt-index in
    let all = c.as_slice-stmt-items.result.now in
    let behind = drop (i + 1) all in
    c.loop-stmt.invariant
    ∙ ap (first_bad now) (drop_more all i c.stmt-item.result c.loop-stmt-test.true)
    ∙ ap (λ stmt. first_bad now (stmt ∷ behind)) (sym c.stmt-item.is)
    ∙ c.in_ok-pass.ensures behind

pub returns : goal.returns
returns c =
    sym (c.loop-stmt.invariant
    ∙ ap (first_bad c.loop-stmt.so_far) (drop_all c.loop-stmt.stmt-index c.as_slice-stmt-items.result.now c.loop-stmt-test.false)
    ∙ earlier-none c.loop-stmt.so_far.first)
