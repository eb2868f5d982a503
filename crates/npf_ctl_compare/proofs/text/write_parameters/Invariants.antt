use Rattle.std.proofs.Common.{◌≡◌, ◌++◌, take}
use Rattle.std.specs.List.{flat_map}
use Rattle.npf_ctl_compare.specs.CompareText.{parameter_line}
use Rattle.npf_ctl_compare.proofs.text.write_parameters.Given as goal

abbrev pub invariant-loop-parameter : goal.invariant-loop-parameter
invariant-loop-parameter l = l.into.items ≡ l.initial.into.items ++ flat_map (parameter_line l.old.model l.new.model) (take l.parameter-index l.parameters)
