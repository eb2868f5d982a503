use Rattle.npf_ctl_schedule.{specs.Schedule.phase_parts, proofs.PhaseLemmas.phases_add_up}
use Rattle.npf_ctl_schedule.proofs.laws.packets_add_up.Goals as goal

pub returns : goal.returns
returns c = λ lines packets. phases_add_up 0 packets (phase_parts lines)
