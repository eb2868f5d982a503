use Rattle.std.proofs.Common.{ap, ◌∙◌}
use Rattle.npf_core.{specs.{Hold.holder_in, Slot.slot_in}, proofs.{HoldingLemmas.{each_once-filter, is_other}, PlainMachineLemmas.taken_state}}
use Rattle.npf_core.proofs.plain_machine.PlainMachine.take_back.Goals as goal

pub invariant_of-self : goal.invariant_of-self
invariant_of-self g c =
    let self = c.args.self.now in
    record { further = self.further; each_once = rw c.drop_held.ensures (each_once-filter (is_other c.args.found) self.holdings.items self.each_once) }

pub returns-clause-state : goal.returns-clause-state
returns-clause-state g c =
    let self = c.args.self.now in
    let holders = ap holder_in c.drop_held.ensures ∙ taken_state self.holdings.items c.args.found self.each_once in
    λ i. record { slot = slot_in self.slots.items; holder = holders i }
