-- What a binding leaves is what the rule and its ruleset, or the group, ask for.
use Rattle.std.proofs.Common.{◌≡◌, Bool, true, false, ◌&&◌, Option, refl, ap, ◌∙◌}
use Rattle.npf_types.specs.declared.{direction.Dir.{Dir, TheVariants.{In, Out}}, interface.IfId.IfId}
use Rattle.npf_model.specs.{declared.rule.OnIf.OnIf, Place.{fits_dir, fits_on}, Verdict.PlacedRule}
use Rattle.npf_ruleset.specs.{declared.binding.Binding.Binding, Binding.{IsBindingOf, IsBoundTo, is_bound}}

in_order : (a b c d : Bool) → ((a && b) && c && d) ≡ (a && c && b && d)
in_order true true true d = refl
in_order true true false d = refl
in_order true false true d = refl
in_order true false false d = refl
in_order false b c d = refl

with_none : (a b : Bool) → (a && true && b) ≡ (a && b)
with_none true b = refl
with_none false b = refl

module _ (binding : Binding) (within own : Option OnIf) (same_within : binding.within ≡ within) (same_own : binding.on ≡ own) (ifid : IfId) where
  interfaces : (b : Bool) → (b && fits_on binding.within ifid && fits_on binding.on ifid) ≡ (b && fits_on within ifid && fits_on own ifid)
  interfaces b = rw same_within (rw same_own refl)

pub bound_rule : (placed : PlacedRule) (binding : Binding) → IsBindingOf placed binding → (ifid : IfId) (dir : Dir)
    → is_bound binding ifid dir ≡ (fits_dir placed.within_dir dir && fits_on placed.within_on ifid && fits_dir placed.rule.dir dir && fits_on placed.rule.on ifid)
bound_rule placed binding is ifid In =
    interfaces binding placed.within_on placed.rule.on is.within is.own ifid binding.incoming
    ∙ ap (λ b. b && fits_on placed.within_on ifid && fits_on placed.rule.on ifid) is.incoming
    ∙ in_order (fits_dir placed.within_dir In) (fits_dir placed.rule.dir In) (fits_on placed.within_on ifid) (fits_on placed.rule.on ifid)
bound_rule placed binding is ifid Out =
    interfaces binding placed.within_on placed.rule.on is.within is.own ifid binding.outgoing
    ∙ ap (λ b. b && fits_on placed.within_on ifid && fits_on placed.rule.on ifid) is.outgoing
    ∙ in_order (fits_dir placed.within_dir Out) (fits_dir placed.rule.dir Out) (fits_on placed.within_on ifid) (fits_on placed.rule.on ifid)

pub bound_group : (asked : Option Dir) (on : Option OnIf) (binding : Binding) → IsBoundTo asked on binding → (ifid : IfId) (dir : Dir)
    → is_bound binding ifid dir ≡ (fits_dir asked dir && fits_on on ifid)
bound_group asked on binding is ifid In =
    interfaces binding _ on is.within is.own ifid binding.incoming ∙ with_none binding.incoming (fits_on on ifid) ∙ ap (λ b. b && fits_on on ifid) is.incoming
bound_group asked on binding is ifid Out =
    interfaces binding _ on is.within is.own ifid binding.outgoing ∙ with_none binding.outgoing (fits_on on ifid) ∙ ap (λ b. b && fits_on on ifid) is.outgoing
