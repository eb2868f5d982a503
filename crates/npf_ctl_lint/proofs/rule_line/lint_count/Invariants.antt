use Rattle.std.proofs.Common.{◌≡◌, ◌≤◌, take}
use Rattle.npf_ctl_lint.specs.RuleLine.{lint_count}
use Rattle.npf_ctl_lint.proofs.rule_line.lint_count.Given as goal

abbrev pub invariant-loop-finding : goal.invariant-loop-finding
invariant-loop-finding l = (l.count ≡ lint_count l.lint (take l.finding-index l.findings)) × (l.count ≤ l.finding-index)
