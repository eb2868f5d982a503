use Rattle.std.proofs.Common.{◌≡◌, ◌==◌, filter, not, take}
use Rattle.npf_config_changes.proofs.change.others.Given as goal

abbrev pub invariant-loop-rule : goal.invariant-loop-rule
invariant-loop-rule l = l.others.items ≡ filter (λ numbered. not (numbered.0 == l.id)) (take l.rule-index l.rules)
