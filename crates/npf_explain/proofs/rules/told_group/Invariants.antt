use Rattle.std.proofs.Common.{◌≡◌, map, take}
use Rattle.npf_explain.specs.Asked.{entry_told}
use Rattle.npf_explain.proofs.rules.told_group.Given as goal

abbrev pub invariant-loop-entry : goal.invariant-loop-entry
invariant-loop-entry l = l.told.items ≡ map (entry_told l.asked l.decider l.says) (take l.entry-index l.rules)
