use Rattle.std.proofs.Common.{◌≡◌, ◌++◌, drop}
use Rattle.npf_ctl_lint.specs.RuleLine.{finding_lines}
use Rattle.npf_ctl_lint.proofs.rule_line.write_rules.Given as goal

-- what was told, and then the lines of the rules that are left
abbrev pub invariant-loop-place : goal.invariant-loop-place
invariant-loop-place l =
    l.initial.into.items ++ finding_lines 0 l.findings ≡ l.into.items ++ finding_lines l.place (drop l.place l.findings)
