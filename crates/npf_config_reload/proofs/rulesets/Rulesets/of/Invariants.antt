use Rattle.std.proofs.Common.{flat_map, take}
use Rattle.npf_config_changes.specs.Rulesets.{rulesets_in}
use Rattle.npf_config_reload.specs.Before.{FindsFirst}
use Rattle.npf_config_reload.proofs.rulesets.Rulesets.of.Given as goal

abbrev pub invariant-loop-group : goal.invariant-loop-group
invariant-loop-group l = FindsFirst l.rulesets (λ name. flat_map (rulesets_in name) (take l.group-index l.groups))
