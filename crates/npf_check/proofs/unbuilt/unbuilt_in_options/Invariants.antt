use Rattle.std.{proofs.Common.{◌≡◌, drop}, specs.List.flat_map}
use Rattle.npf_faults.specs.First.{earlier, first_fault}
use Rattle.npf_check.specs.Unbuilt.{unbuilt_option}
use Rattle.npf_check.proofs.unbuilt.unbuilt_in_options.Given as goal

abbrev pub invariant-loop-option : goal.invariant-loop-option
invariant-loop-option l = first_fault (flat_map unbuilt_option l.options) ≡ earlier l.first (first_fault (flat_map unbuilt_option (drop l.option-index l.options)))
