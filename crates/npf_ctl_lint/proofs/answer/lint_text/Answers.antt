use Rattle.std.proofs.Common.{ap, ◌∙◌}
use Rattle.npf_model.specs.declared.model.Model.{Model}
use Rattle.npf_ctl_lint.specs.LintText.{findings_text}
use Rattle.npf_ctl_lint.proofs.answer.lint_text.Goals as goal

pub returns-clause-ok : goal.returns-clause-ok
returns-clause-ok c = record {
  findings = c.in_ok-findings.findings;
  are = c.in_ok-findings.ensures.ok;
  told = c.in_ok-text.ensures ∙ ap (λ (model : Model). findings_text model c.in_ok-findings.findings) c.model.ensures;
  says = c.some_finding-found.ensures;
}
