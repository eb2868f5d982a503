use Rattle.std.proofs.Common.{◌≡◌, drop}
use Rattle.npf_ctl_schedule.specs.Schedule.{run_interfaces, unnumbered}
use Rattle.npf_ctl_schedule.proofs.interfaces.run_interfaces.Given as goal

abbrev pub invariant-loop-line : goal.invariant-loop-line
invariant-loop-line l = run_interfaces l.fn.given.list (unnumbered l.lines) ≡ run_interfaces l.ifaces.items (unnumbered (drop l.line-index l.lines))
