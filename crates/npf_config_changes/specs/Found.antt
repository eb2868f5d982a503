-- A ruleset that is found in a model, as the changes see it.
use Rattle.std.specs.Prelude.{Option, Some, None, Result, Ok, Err}
use Rattle.npf_config_changes.specs.declared.fault.ChangeFault.{ChangeFault}
use Rattle.npf_config_changes.specs.declared.fault.ChangeFault.TheVariants.{UnknownRuleset}
use Rattle.npf_config_changes.specs.declared.ruleset.RulesetView.{RulesetView}
use Rattle.npf_config_changes.specs.Rulesets.{Ruleset}

abbrev pub ruleset_of : RulesetView → Ruleset
ruleset_of found = record { next_id = found.next_id; rules = found.rules.now }

abbrev pub told_ruleset : Option RulesetView → Result Ruleset ChangeFault
told_ruleset None = Err UnknownRuleset
told_ruleset (Some found) = Ok (ruleset_of found)
