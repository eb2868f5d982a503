use Rattle.std.{proofs.Common.{◌≡◌, ◌++◌, length, take}, specs.List.AllZip}
use Rattle.npf_model.specs.Verdict.{all_rules}
use Rattle.npf_ruleset.specs.Flat.{IsFlatRule, programs_of}
use Rattle.npf_ruleset.proofs.compile.lay_out.Given as goal

abbrev pub invariant-loop-program : goal.invariant-loop-program
invariant-loop-program l = record {
  laid : AllZip (IsFlatRule l.groups) (take (length l.rules.items) (all_rules l.groups)) l.rules.items;
  left : l.fn.programs.items ≡ programs_of l.rules.items ++ l.program-iterator.rest.items;
}
