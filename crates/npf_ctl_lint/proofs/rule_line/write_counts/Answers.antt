use Rattle.std.proofs.Common.{◌++◌, length, codes, ap, ◌∙◌}
use Rattle.std.specs.Fmt.{decimal}
use Rattle.npf_ctl_lint.specs.declared.rule_line.Lint.TheVariants.{Dead, Redundant}
use Rattle.npf_ctl_lint.specs.RuleLine.{lint_count}
use Rattle.npf_ctl_lint.proofs.TextLemmas.{then_rest}
use Rattle.npf_ctl_lint.proofs.rule_line.write_counts.Goals as goal

pub returns : goal.returns
returns c =
    let findings = c.args.findings.now in
    let dead = codes " dead " ++ decimal (lint_count Dead findings) in
    let redundant = codes " redundant " ++ decimal (lint_count Redundant findings) in
    let end = codes "\n" in
    then_rest _ (codes "rules " ++ decimal (length findings)) (dead ++ (redundant ++ end)) c.in_ok-write_counted.ensures
    (then_rest _ dead (redundant ++ end) (c.in_ok-write_counted-2.ensures ∙ ap (λ n. c.write_counted.new.into.items ++ (codes " dead " ++ decimal n)) c.lint_count.ensures)
    (then_rest _ redundant end (c.in_ok-write_counted-3.ensures ∙ ap (λ n. c.write_counted-2.new.into.items ++ (codes " redundant " ++ decimal n)) c.lint_count-2.ensures)
    c.in_ok-write_text.ensures))
