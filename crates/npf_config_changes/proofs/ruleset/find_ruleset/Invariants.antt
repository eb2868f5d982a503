use Rattle.std.proofs.Common.{◌≡◌, drop, flat_map}
use Rattle.npf_config_changes.specs.{Changes.found_ruleset, Rulesets.rulesets_in}
use Rattle.npf_config_changes.proofs.ruleset.find_ruleset.Given as goal

abbrev pub invariant-loop-group : goal.invariant-loop-group
invariant-loop-group l = found_ruleset (flat_map (rulesets_in l.name) l.fn.groups) ≡ found_ruleset (flat_map (rulesets_in l.name) (drop l.group-index l.fn.groups))
