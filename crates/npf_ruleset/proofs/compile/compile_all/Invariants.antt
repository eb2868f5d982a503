use Rattle.std.proofs.Common.{take}
use Rattle.npf_model.specs.Verdict.{all_rules}
use Rattle.npf_ruleset.specs.Refusal.{AreProgramsOf}
use Rattle.npf_ruleset.proofs.compile.compile_all.Given as goal

abbrev pub invariant-loop-at : goal.invariant-loop-at
invariant-loop-at l = AreProgramsOf (take l.at (all_rules l.groups)) l.programs.items
