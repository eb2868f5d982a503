use Rattle.std.{proofs.Common.{◌++◌, List, drop, flat_map, map, take}, specs.List.AllZip}
use Rattle.npf_model.specs.Verdict.{PlacedRule, rules_at, rules_of}
use Rattle.npf_ruleset.specs.Flat.{programs_of}
use Rattle.npf_config_changes.specs.{Kept.{Keeps, Serves, ruleset_change}, Rulesets.item_with_ruleset}
use Rattle.npf_config_changes.proofs.programs.add_group.Given as goal

abbrev pub invariant-loop-item : goal.invariant-loop-item
invariant-loop-item l = record {
  keeps : Keeps l.change (flat_map rules_at (map (item_with_ruleset l.name (ruleset_change l.change)) (take l.item-index l.fn.group.items))) l.flats l.left l.fn.programs.items l.programs.items;
  left : (more : List PlacedRule) → AllZip Serves (rules_of l.fn.group ++ more) (programs_of l.flats)
      → AllZip Serves (flat_map rules_at (drop l.item-index l.fn.group.items) ++ more) (programs_of l.left);
}
