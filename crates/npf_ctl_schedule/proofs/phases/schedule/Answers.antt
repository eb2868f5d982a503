use Rattle.std.proofs.Common.{◌++◌, List, ap, sym}
use Rattle.npf_traffic.specs.declared.phase.Phase.{Phase}
use Rattle.npf_types.specs.declared.limits.TheConstants.{MAX_CHANGES}
use Rattle.npf_ctl_schedule.{specs.Schedule.{phase_parts, phases_from, unnumbered}, proofs.PartLemmas.parts_within}
use Rattle.npf_ctl_schedule.proofs.phases.schedule.Goals as goal

pub loop-at-init : goal.loop-at-init
loop-at-init c = record {
  within = parts_within (unnumbered c.args.lines.now) MAX_CHANGES c.requires;
  said = ap (λ (phases : List Phase). phases ++ phases_from 0 c.args.packets (phase_parts (unnumbered c.args.lines.now))) (sym c.new-phases.ensures.items);
}
