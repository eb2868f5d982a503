use Rattle.std.proofs.Common.{◌++◌, arith}
use Rattle.npf_ctl_lint.specs.RuleLine.{finding_lines}
use Rattle.npf_ctl_lint.proofs.TextLemmas.{lines_done, lines_more}
use Rattle.npf_ctl_lint.proofs.rule_line.write_rules.Goals as goal

pub loop-place-preserved : goal.loop-place-preserved
loop-place-preserved c =
    lines_more c.args.findings.now c.loop-place.place c.index-findings-place.result (c.args.into.now.items ++ finding_lines 0 c.args.findings.now) c.loop-place.into.items
    c.write_finding.new.into.items (omega (arith, c.loop-place-test.true)) c.index-findings-place.is c.loop-place.invariant c.in_ok-write_finding.ensures

pub returns : goal.returns
returns c =
    lines_done c.args.findings.now c.loop-place.place (c.args.into.now.items ++ finding_lines 0 c.args.findings.now) c.loop-place.into.items
    (omega (arith, c.loop-place-test.false)) c.loop-place.invariant
