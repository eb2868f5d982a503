use Rattle.std.proofs.Common.{◌≡◌, drop, flat_map}
use Rattle.npf_config_changes.specs.{Changes.found_ruleset, Rulesets.rulesets_at}
use Rattle.npf_config_changes.proofs.ruleset.find_in.Given as goal

abbrev pub invariant-loop-item : goal.invariant-loop-item
invariant-loop-item l = found_ruleset (flat_map (rulesets_at l.name) l.fn.items) ≡ found_ruleset (flat_map (rulesets_at l.name) (drop l.item-index l.fn.items))
