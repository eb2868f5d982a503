use Rattle.std.proofs.{Common.{◌≡◌, ◌≤◌, length, subst, ap, ◌∙◌, arith}, lemmas.Slice.Zip.AllZip-long}
use Rattle.npf_model.specs.{declared.model.Model.Model, Verdict.{PlacedRule, all_rules}}
use Rattle.npf_ruleset.{specs.{Configuration.programs, Flat.{IsCompiled, instructions}, Refusal.IsWithinLimits}, proofs.CompileLemmas.instructions_counted}
use Rattle.npf_ruleset.proofs.builder.build.Goals as goal

pub returns-then-total-clause-refuses : goal.returns-then-total-clause-refuses
returns-then-total-clause-refuses c = record {
  light = c.in_ok-programs.ensures.ok.light;
  counted = c.instructions-total.ensures ∙ ap instructions c.deref.ensures.value
      ∙ instructions_counted (all_rules c.args.model.groups) c.in_ok-programs.programs.items c.in_ok-programs.ensures.ok;
  over = c.if-total.true;
}

pub instructions-total-requires : goal.instructions-total-requires
instructions-total-requires c =
    let programs = c.in_ok-programs.programs.items in
    let same : length c.deref.result.now ≡ length programs = ap length c.deref.ensures.value in
    let many = AllZip-long (λ (placed : PlacedRule). IsCompiled placed.rule) (all_rules c.args.model.groups) programs c.in_ok-programs.ensures.ok.each in
    let few = c.requires.buildable.rules in
    omega arith

pub assemble-requires-clause-programs : goal.assemble-requires-clause-programs
assemble-requires-clause-programs c = record {
  compiled = c.in_ok-programs.ensures.ok;
  few = subst (λ rules. instructions rules ≤ 524288) c.deref.ensures.value (subst (λ n. n ≤ 524288) c.instructions-total.ensures c.if-total.false);
}

pub returns-clause-accepts : goal.returns-clause-accepts
returns-clause-accepts c =
    let config = c.in_ok-assemble.field-0 in
    subst (λ (m : Model). IsWithinLimits m (programs config)) c.in_ok-assemble.ensures.model config.limits
