use Rattle.std.proofs.Common.{◌≡◌, ◌++◌, take}
use Rattle.std.specs.List.{flat_map}
use Rattle.npf_ctl_compare.specs.CompareText.{rule_difference_line}
use Rattle.npf_ctl_compare.proofs.text.write_rules.Given as goal

abbrev pub invariant-loop-difference : goal.invariant-loop-difference
invariant-loop-difference l = l.into.items ≡ l.initial.into.items ++ flat_map (rule_difference_line l.old.model l.new.model l.ifaces) (take l.difference-index l.differences)
