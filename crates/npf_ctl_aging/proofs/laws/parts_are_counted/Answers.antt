use Rattle.std.proofs.Common.{◌≡◌, ◌∙◌, None, length, sym}
use Rattle.npf_traffic.specs.Phases.{packets_in}
use Rattle.npf_ctl_aging.{specs.Aging.ticks, proofs.{CountLemmas.length_of_phases, SumLemmas.length-ticks_behind}}
use Rattle.npf_ctl_aging.proofs.laws.parts_are_counted.Goals as goal

pub returns : goal.returns
returns c = λ seconds packets phases all.
    length_of_phases (ticks seconds packets) phases (all ∙ sym (length-ticks_behind seconds None packets))
