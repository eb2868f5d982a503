use Rattle.std.{proofs.Common.{[], drop, map, take}, specs.List.AllZip}
use Rattle.npf_model.specs.Verdict.{all_rules}
use Rattle.npf_ruleset.specs.Flat.{programs_of}
use Rattle.npf_config_changes.specs.{Kept.{Keeps, Serves, ruleset_change}, Rulesets.group_with_ruleset}
use Rattle.npf_config_changes.proofs.programs.changed_programs.Given as goal

abbrev pub invariant-loop-group : goal.invariant-loop-group
invariant-loop-group l = record {
  keeps : Keeps l.change (all_rules (map (group_with_ruleset l.name (ruleset_change l.change)) (take l.group-index l.fn.groups))) l.flats l.left [] l.programs.items;
  left : AllZip Serves (all_rules (drop l.group-index l.fn.groups)) (programs_of l.left);
}
