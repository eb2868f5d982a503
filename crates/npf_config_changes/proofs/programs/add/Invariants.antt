use Rattle.std.proofs.Common.{◌≡◌, ◌++◌, take}
use Rattle.npf_ruleset.specs.Flat.{programs_of}
use Rattle.npf_config_changes.proofs.programs.add.Given as goal

abbrev pub invariant-loop-flat : goal.invariant-loop-flat
invariant-loop-flat l = l.programs.items ≡ l.fn.programs.items ++ programs_of (take l.flat-index l.flats)
