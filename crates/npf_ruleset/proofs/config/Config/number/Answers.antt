use Rattle.std.proofs.Common.{◌≡◌, map, refl, subst, sym, ap, ◌∙◌}
use Rattle.npf_model.specs.{declared.model.Model.Model, Numbering.{numbered, numbered_group}}
use Rattle.npf_ruleset.specs.{Flat.{IsFlat, programs_of}, Numbered.numbered_flat_group, Refusal.{IsBuildable, IsWithinLimits}}
use Rattle.npf_ruleset.proofs.NumberedLemmas.{buildable_numbered, flat_numbered, limits_numbered, programs_numbered}
use Rattle.npf_ruleset.proofs.config.Config.number.Goals as goal

pub invariant_of-self : goal.invariant_of-self
invariant_of-self c =
    let config = c.args.self.now in let list = c.as_slice-list.result.now in
    let model : Model = record config.model { groups = c.number.new.self; maps = c.number-2.new.self } in
    let is : model ≡ numbered list config.model = rw (c.number.ensures, c.number-2.ensures) refl in
    let same = ap programs_of c.number-4.ensures ∙ programs_numbered list config.rules in
    record {
      flat = subst (λ groups. IsFlat groups c.number-3.new.self c.number-4.new.self) (sym c.number.ensures)
          (subst (λ flat_groups. IsFlat (map (numbered_group list) config.model.groups) flat_groups c.number-4.new.self) (sym c.number-3.ensures)
          (subst (λ flat_rules. IsFlat (map (numbered_group list) config.model.groups) (map (numbered_flat_group list) config.groups) flat_rules)
          (sym c.number-4.ensures) (flat_numbered list config.model.groups config.groups config.rules config.flat)));
      buildable = subst IsBuildable (sym is) (buildable_numbered list config.model config.buildable);
      limits = subst (λ (m : Model). IsWithinLimits m (programs_of c.number-4.new.self)) (sym is)
          (subst (IsWithinLimits (numbered list config.model)) (sym same) (limits_numbered list config.model (programs_of config.rules) config.limits));
      declared = record { declared = config.declared.declared; few = config.declared.few };
    }

pub returns-clause-programs : goal.returns-clause-programs
returns-clause-programs c = ap programs_of c.number-4.ensures ∙ programs_numbered c.as_slice-list.result.now c.args.self.now.rules
