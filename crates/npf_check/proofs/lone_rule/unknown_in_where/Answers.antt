use Rattle.std.proofs.Common.{ap, ◌∙◌}
use Rattle.npf_faults.specs.First.{first_fault}
use Rattle.npf_syntax.specs.declared.filter.EndsTree.{EndsTree}
use Rattle.npf_check.{specs.LoneRule.{unknown_in_ends, unknown_in_target}, proofs.FaultLemmas.joined}
use Rattle.npf_check.proofs.lone_rule.unknown_in_where.Goals as goal

pub returns-in-From : goal.returns-in-From
returns-in-From c =
    let rule = c.args.rule.now in
    let source = c.unknown_in_ends-source.ensures ∙ ap (λ (ends : EndsTree). first_fault (unknown_in_ends ends rule.from)) c.get.ensures in
    rw c.in-From.is (joined (unknown_in_ends c.in-From.from rule.from) (unknown_in_target c.in-From.to rule.to) _ _ _
    source c.unknown_in_target.ensures c.earlier.ensures)
