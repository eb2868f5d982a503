use Rattle.std.proofs.Common.{◌≡◌, drop}
use Rattle.npf_ctl_schedule.specs.Schedule.{packets_wanted, unnumbered}
use Rattle.npf_ctl_schedule.proofs.part.packets_wanted.Given as goal

abbrev pub invariant-loop-line : goal.invariant-loop-line
invariant-loop-line l = packets_wanted l.left (unnumbered l.part) ≡ packets_wanted l.left (unnumbered (drop l.line-index l.part))
