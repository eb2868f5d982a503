use Rattle.std.proofs.Common.{◌≤◌, ◌∙◌, None, length, arith}
use Rattle.npf_traffic.specs.Phases.{packets_in}
use Rattle.npf_ctl_aging.{specs.Aging.ticks, proofs.SumLemmas.{length-ticks_behind, packets_of_phases}}
use Rattle.npf_ctl_aging.proofs.laws.packets_stay.Goals as goal

pub returns : goal.returns
returns c = λ seconds packets phases all.
    let within : packets_in phases ≤ length (ticks seconds packets) = omega (arith, length-ticks_behind seconds None packets) in
    packets_of_phases (ticks seconds packets) phases within ∙ all
