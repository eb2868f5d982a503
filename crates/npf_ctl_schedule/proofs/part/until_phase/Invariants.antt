use Rattle.std.proofs.Common.{◌≡◌, ◌++◌, take, drop}
use Rattle.npf_ctl_schedule.specs.Schedule.{until_phase, unnumbered}
use Rattle.npf_ctl_schedule.proofs.part.until_phase.Given as goal

abbrev pub invariant-loop-at : goal.invariant-loop-at
invariant-loop-at l = until_phase (unnumbered l.lines) ≡ unnumbered (take l.at l.lines) ++ until_phase (unnumbered (drop l.at l.lines))
