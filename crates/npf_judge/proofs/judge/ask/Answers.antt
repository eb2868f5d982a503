use Rattle.std.proofs.Common.{◌≡◌, map, ap, ◌∙◌}
use Rattle.npf_precedence.specs.{Entry.ordered_rule, Precedence.in_order}
use Rattle.npf_judge.proofs.AnswerLemmas.{is_answer, places_below}
use Rattle.npf_judge.proofs.judge.ask.Goals as goal

pub ask_order-requires : goal.ask_order-requires
ask_order-requires c =
    let laid : map ordered_rule c.as_slice.result.now ≡ in_order c.args.model.now.groups =
    ap (map ordered_rule) c.as_slice.ensures.value ∙ c.in_ok-entries.ensures ∙ ap in_order c.as_slice-groups.ensures in
    places_below c.args.model.now.groups c.as_slice.result.now laid c.each_rule_once.ensures

pub returns-clause-answer : goal.returns-clause-answer
returns-clause-answer c =
    let laid : map ordered_rule c.as_slice.result.now ≡ in_order c.args.model.now.groups =
    ap (map ordered_rule) c.as_slice.ensures.value ∙ c.in_ok-entries.ensures ∙ ap in_order c.as_slice-groups.ensures in
    is_answer c.args.model.now c.args.tables.now c.args.class.now c.as_slice.result.now c.in_ok-answer.answer laid c.first_match_decides.ensures c.in_ok-answer.ensures.answer
