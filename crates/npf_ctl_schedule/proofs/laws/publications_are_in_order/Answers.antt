use Rattle.std.proofs.Common.{◌+◌, arith}
use Rattle.npf_ctl_schedule.{specs.Schedule.{changes_in, phase_parts}, proofs.{PartLemmas.changes_parted, PhaseLemmas.phases_in_order}}
use Rattle.npf_ctl_schedule.proofs.laws.publications_are_in_order.Goals as goal

pub returns : goal.returns
returns c = λ lines packets. (omega arith, phases_in_order (1 + changes_in lines) 0 packets (phase_parts lines) (omega (arith, changes_parted lines)))
