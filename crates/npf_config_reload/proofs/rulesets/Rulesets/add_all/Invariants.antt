use Rattle.std.proofs.Common.{List, ◌++◌, flat_map, take}
use Rattle.npf_types.specs.declared.name.Name.{Name}
use Rattle.npf_config_changes.specs.Rulesets.{Ruleset, rulesets_at}
use Rattle.npf_config_reload.specs.Before.{FindsFirst}
use Rattle.npf_config_reload.proofs.rulesets.Rulesets.add_all.Given as goal

abbrev pub invariant-loop-item : goal.invariant-loop-item
invariant-loop-item l =
    (before : Name → List Ruleset) → FindsFirst l.initial.self before → FindsFirst l.self (λ name. before name ++ flat_map (rulesets_at name) (take l.item-index l.items))
