-- Rules taken out of a ruleset while a run goes on, each to the next configuration or to why it is refused. All else of the
-- configuration stays.
use Rattle.std.specs.Prelude.{◌≡◌, ℕ, Result, Ok, Err, List, [], ◌∷◌}
use Rattle.npf_types.specs.declared.name.Name.{Name}
use Rattle.npf_types.specs.Stages.{Stage, ◌andthen◌, gives, asks_that}
use Rattle.npf_model.specs.declared.model.Model.{Model}
use Rattle.npf_model.specs.Configuration.{Configuration}
use Rattle.npf_config_changes.specs.declared.fault.ChangeFault.{ChangeFault}
use Rattle.npf_config_changes.specs.declared.fault.ChangeFault.TheVariants.{UnknownRuleset, UnknownRule}
use Rattle.npf_config_changes.specs.Rulesets.{Ruleset, has_rule, model_with_ruleset, rulesets_named, with_rule_removed, with_rules_flushed}

abbrev pub found_ruleset : List Ruleset → Result Ruleset ChangeFault
found_ruleset [] = Err UnknownRuleset
found_ruleset (dynamic ∷ _) = Ok dynamic

-- the ruleset of this name
abbrev pub FindsRuleset : Name → Model → Stage Ruleset ChangeFault
FindsRuleset name model result = result ≡ found_ruleset (rulesets_named name model)

-- the configuration in which the rulesets of this name are changed
abbrev pub with_ruleset : Name → (Ruleset → Ruleset) → Configuration → Configuration
with_ruleset name change old = record old { model = model_with_ruleset name change old.model }

module _ (old : Configuration) (name : Name) where
  -- the rule of this number is taken out of the ruleset
  abbrev pub RemovesRule : ℕ → Stage Configuration ChangeFault
  RemovesRule id =
      FindsRuleset name old.model andthen λ dynamic.
      asks_that (has_rule id dynamic) UnknownRule andthen λ _. gives (with_ruleset name (with_rule_removed id) old)

  -- all rules are taken out of the ruleset
  abbrev pub FlushesRules : Stage Configuration ChangeFault
  FlushesRules = FindsRuleset name old.model andthen λ _. gives (with_ruleset name with_rules_flushed old)
