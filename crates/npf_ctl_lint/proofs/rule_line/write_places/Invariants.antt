use Rattle.std.proofs.Common.{◌≡◌, ◌++◌, take}
use Rattle.npf_ctl_lint.specs.RuleLine.{places_text}
use Rattle.npf_ctl_lint.proofs.rule_line.write_places.Given as goal

abbrev pub invariant-loop-place : goal.invariant-loop-place
invariant-loop-place l = l.into.items ≡ l.initial.into.items ++ places_text (take l.place-index l.places)
