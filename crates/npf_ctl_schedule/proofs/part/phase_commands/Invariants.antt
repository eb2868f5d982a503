use Rattle.std.proofs.Common.{◌≡◌, ◌≤◌, ◌+◌, ◌++◌, drop}
use Rattle.npf_ctl_schedule.specs.Schedule.{changes_in, phase_commands, unnumbered}
use Rattle.npf_types.specs.declared.limits.TheConstants.{MAX_CHANGES}
use Rattle.npf_ctl_schedule.proofs.part.phase_commands.Given as goal

abbrev pub invariant-loop-line : goal.invariant-loop-line
invariant-loop-line l = record {
  within : l.made + changes_in (unnumbered (drop l.line-index l.part)) ≤ MAX_CHANGES;
  said : phase_commands l.fn.made (unnumbered l.part) ≡ l.commands.items ++ phase_commands l.made (unnumbered (drop l.line-index l.part));
}
