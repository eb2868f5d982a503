use Rattle.std.proofs.{Common.{◌+◌, ◌++◌, List, drop, ap, sym, ◌∙◌}, lemmas.List.{drop_more, drop_all}}
use Rattle.npf_types.specs.declared.span.Span.{Span}
use Rattle.npf_faults.proofs.FirstLemmas.{earlier-none}
use Rattle.npf_check.specs.{LoneRule.{table_numbers, table_place, table_places, unknown_table}, Pair.first_beside}
use Rattle.npf_check.proofs.lone_rule.unknown_among.Goals as goal

pub loop-value-preserved : goal.loop-value-preserved
loop-value-preserved c =
    let left = c.loop-value.left in
    let i = c.loop-value.value-index in
    let behind = table_places (drop (i + 1) c.args.values.now) in
    let fault = λ (places : List Span). first_beside unknown_table left.first places (table_numbers left.rest.now) in
    c.loop-value.invariant
    ∙ ap (λ values. fault (table_places values)) (drop_more c.args.values.now i c.value-item.result c.loop-value-test.true)
    ∙ ap (λ value. fault (table_place value ++ behind)) (sym c.value-item.is)
    ∙ c.pass.ensures behind

pub returns : goal.returns
returns c =
    let left = c.loop-value.left in
    sym (c.loop-value.invariant
    ∙ ap (λ values. first_beside unknown_table left.first (table_places values) (table_numbers left.rest.now))
    (drop_all c.loop-value.value-index c.args.values.now c.loop-value-test.false)
    ∙ earlier-none left.first)
