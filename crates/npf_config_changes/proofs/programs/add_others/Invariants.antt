use Rattle.std.proofs.Common.{◌≡◌, ◌++◌, drop}
use Rattle.npf_config_changes.specs.Kept.{other_programs}
use Rattle.npf_config_changes.proofs.programs.add_others.Given as goal

abbrev pub invariant-loop-at : goal.invariant-loop-at
invariant-loop-at l = l.programs.items ++ other_programs l.id (drop l.at l.rules) (drop l.at l.flats) ≡ l.fn.programs.items ++ other_programs l.id l.rules l.flats
