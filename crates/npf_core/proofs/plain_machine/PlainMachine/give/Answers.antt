use Rattle.std.proofs.Common.{ap, ◌∙◌}
use Rattle.npf_core.{specs.{Hold.holder_in, Slot.slot_in}, proofs.{HoldingLemmas.each_once-pushed, PlainMachineLemmas.given_state}}
use Rattle.npf_core.proofs.plain_machine.PlainMachine.give.Goals as goal

pub invariant_of-self : goal.invariant_of-self
invariant_of-self g c =
    let self = c.args.self.now in
    record { further = self.further; each_once = each_once-pushed _ self.holdings.items _ (record { key = c.args.key; found = c.args.found }) c.push.ensures.items self.each_once c.requires }

pub returns-clause-state : goal.returns-clause-state
returns-clause-state g c =
    let self = c.args.self.now in
    let holders = ap holder_in c.in_ok-push.ensures.items ∙ given_state self.holdings.items c.args.key c.args.found in
    λ i. record { slot = slot_in self.slots.items; holder = holders i }
