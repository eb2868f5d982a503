use Rattle.std.proofs.Common.{◌≡◌, ◌≤◌, ◌+◌, ◌++◌, drop}
use Rattle.npf_ctl_schedule.{specs.Schedule.{phase_parts, phases_from, phases_of, unnumbered}, proofs.PartLemmas.changes_of_parts}
use Rattle.npf_types.specs.declared.limits.TheConstants.{MAX_CHANGES}
use Rattle.npf_ctl_schedule.proofs.phases.schedule.Given as goal

abbrev pub invariant-loop-at : goal.invariant-loop-at
invariant-loop-at l = record {
  within : l.made + changes_of_parts (phase_parts (unnumbered (drop l.at l.lines))) ≤ MAX_CHANGES;
  said : phases_of (unnumbered l.lines) l.fn.packets ≡ l.phases.items ++ phases_from l.made l.left (phase_parts (unnumbered (drop l.at l.lines)));
}
