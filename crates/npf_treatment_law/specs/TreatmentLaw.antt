-- What the engine makes of a packet that no connection took, by its treatment and the settings.
use Rattle.std.specs.Prelude.{◌≡◌, ℕ, Option, Some, None}
use Rattle.npf_types.specs.declared.decision.Return.TheVariants.{Nothing}
use Rattle.npf_types.specs.declared.direction.Dir.{Dir}
use Rattle.npf_types.specs.declared.facts.Facts.{Facts}
use Rattle.npf_types.specs.declared.interface.IfId.{IfId}
use Rattle.npf_model.specs.declared.map.Map.{Map}
use Rattle.npf_model.specs.Configuration.{Configuration}
use Rattle.npf_nat.specs.MapPlan.{plan_by}
use Rattle.npf_engine.specs.declared.rules.Ruling.{Ruling}
use Rattle.npf_engine.specs.Rules.{mapping_of, ruling_of}
use Rattle.npf_treatment.specs.declared.rule.RuleEffect.{RuleEffect}
use Rattle.npf_treatment.specs.declared.rule.RuleEffect.TheVariants.{Blocked, Passed}
use Rattle.npf_treatment.specs.Treatment.{effect_by, map_effect, treatment}

-- maps with one effect make one plan of a packet
abbrev pub EffectsPlanAlike : Type 0
EffectsPlanAlike =
    (one other : Map) (unsaid : ℕ × ℕ) (facts : Facts) (dir : Dir) → map_effect one dir ≡ map_effect other dir
    → plan_by unsaid dir one facts ≡ plan_by unsaid dir other facts

-- what a ruling does, but for its place and its settings
abbrev pub ruling_effect : Option Ruling → RuleEffect
ruling_effect None = Blocked Nothing None
ruling_effect (Some ruling) = effect_by ruling.decision ruling.state ruling.action

abbrev pub PassesBy : RuleEffect → Type 0
PassesBy (Blocked answer log) = ⊥
PassesBy (Passed state action) = Unit {0}

-- two configurations handle the packet alike
pub record AreHandledAlike (old new : Configuration) (facts : Facts) (ifid : IfId) (dir : Dir) : Type 0 where
  pub rule : ruling_effect (ruling_of old facts ifid dir) ≡ ruling_effect (ruling_of new facts ifid dir)
  pub map : PassesBy (ruling_effect (ruling_of old facts ifid dir)) → mapping_of old facts ifid dir ≡ mapping_of new facts ifid dir

abbrev pub EngineFollowsTreatment : Type 0
EngineFollowsTreatment =
    (old new : Configuration) (facts : Facts) (ifid : IfId) (dir : Dir)
    → old.model.settings ≡ new.model.settings → treatment old facts ifid dir ≡ treatment new facts ifid dir
    → AreHandledAlike old new facts ifid dir
