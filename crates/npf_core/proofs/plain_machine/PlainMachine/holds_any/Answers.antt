use Rattle.npf_core.proofs.PlainMachineLemmas.{is_held_by_means}
use Rattle.npf_core.proofs.plain_machine.PlainMachine.holds_any.Goals as goal

pub returns : goal.returns
returns g c =
    let self = c.args.self.now in
    let means = is_held_by_means self.holdings.items c.args.id self.each_once in
    rw (c.is_held_by.ensures, c.deref.ensures.value) means
