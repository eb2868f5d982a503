use Rattle.std.{proofs.Common.{subst, sym, ap, ◌∙◌}, specs.Prelude.unwrap_or}
use Rattle.npf_model.specs.Verdict.{PlacedRule}
use Rattle.npf_ruleset.specs.{Binding.IsBindingOf, Row.IsRowOf}
use Rattle.npf_ruleset.proofs.compile.flat_rule.Goals as goal

pub returns-clause-stands : goal.returns-clause-stands
returns-clause-stands c = λ placed at compiled.
    let same = ap (λ o. unwrap_or o placed) (sym c.placed_at-placed.ensures ∙ at) in
    record {
      place = at;
      binding = subst (λ p. IsBindingOf p c.of_rule.result) same c.of_rule.ensures;
      last = ap (λ (p : PlacedRule). p.rule.last) same;
      row = subst (λ (p : PlacedRule). IsRowOf p.rule c.of.result) same c.of.ensures;
      value = compiled.value;
    }
