use Rattle.std.proofs.Common.{◌≡◌, take}
use Rattle.npf_config_reload.specs.{Before.again_of, Taken.rules_again}
use Rattle.npf_config_reload.proofs.kept_rules.rules_again.Given as goal

abbrev pub invariant-loop-numbered : goal.invariant-loop-numbered
invariant-loop-numbered l = l.again.items ≡ rules_again (again_of l.places) (take l.numbered-index l.rules)
