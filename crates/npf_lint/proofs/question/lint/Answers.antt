use Rattle.std.proofs.Common.{◌≡◌, map, ap, ◌∙◌}
use Rattle.npf_precedence.specs.{Entry.ordered_rule, Precedence.in_order}
use Rattle.npf_judge.proofs.PlaceLemmas.{has_places}
use Rattle.npf_lint.proofs.FindingLemmas.{are_findings}
use Rattle.npf_lint.proofs.question.lint.Goals as goal

pub lint_order-requires : goal.lint_order-requires
lint_order-requires c =
    let laid : map ordered_rule c.as_slice.result.now ≡ in_order c.args.model.now.groups =
    ap (map ordered_rule) c.as_slice.ensures.value ∙ c.in_ok-entries.ensures ∙ ap in_order c.as_slice-groups.ensures in
    has_places c.args.model.now c.as_slice.result.now laid c.each_rule_once.ensures

pub returns-clause-findings : goal.returns-clause-findings
returns-clause-findings c =
    let laid : map ordered_rule c.as_slice.result.now ≡ in_order c.args.model.now.groups =
    ap (map ordered_rule) c.as_slice.ensures.value ∙ c.in_ok-entries.ensures ∙ ap in_order c.as_slice-groups.ensures in
    are_findings c.args.model.now c.args.tables.now c.as_slice.result.now c.in_ok-findings.findings.items laid c.first_match_decides.ensures c.each_rule_once.ensures
    c.in_ok-findings.ensures.count c.in_ok-findings.ensures.each
