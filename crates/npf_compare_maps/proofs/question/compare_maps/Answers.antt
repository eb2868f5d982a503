use Rattle.std.proofs.Common.{map, ap, ◌∙◌}
use Rattle.npf_precedence.specs.{Entry.ordered_rule, Precedence.in_order}
use Rattle.npf_compare_maps.specs.declared.side.RankedConfig.{RankedConfig}
use Rattle.npf_compare_maps.proofs.RankedLemmas.{is_ranked}
use Rattle.npf_compare_maps.proofs.question.compare_maps.Goals as goal

pub compare_ranked-requires-clause-before : goal.compare_ranked-requires-clause-before
compare_ranked-requires-clause-before c =
    let config : RankedConfig = record { model = c.args.before.model; tables = c.args.before.tables; order = c.as_slice-4.result } in
    is_ranked config (ap (map ordered_rule) c.as_slice-4.ensures.value ∙ c.in_ok-old_order.ensures ∙ ap in_order c.as_slice-2.ensures) c.each_rule_once.ensures
    c.first_match_decides.ensures

pub compare_ranked-requires-clause-after : goal.compare_ranked-requires-clause-after
compare_ranked-requires-clause-after c =
    let config : RankedConfig = record { model = c.args.after.model; tables = c.args.after.tables; order = c.as_slice-5.result } in
    is_ranked config (ap (map ordered_rule) c.as_slice-5.ensures.value ∙ c.in_ok-new_order.ensures ∙ ap in_order c.as_slice-3.ensures) c.each_rule_once.ensures
    c.first_match_decides.ensures

pub returns-clause-differences : goal.returns-clause-differences
returns-clause-differences c = c.in_ok-differences.ensures.differences
