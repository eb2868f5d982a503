use Rattle.std.proofs.Common.{◌≡◌, take}
use Rattle.std.specs.List.{flat_map}
use Rattle.npf_ctl_check.specs.AskedAbout.{class_names}
use Rattle.npf_ctl_check.proofs.asked.class_names.Given as goal

abbrev pub invariant-loop-expectation : goal.invariant-loop-expectation
invariant-loop-expectation l = l.names.items ≡ flat_map class_names (take l.expectation-index l.read)
