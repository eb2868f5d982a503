use Rattle.npf_core.proofs.PlainMachineLemmas.{is_held_means}
use Rattle.npf_core.proofs.plain_machine.PlainMachine.holds.Goals as goal

pub returns : goal.returns
returns g c =
    let self = c.args.self.now in
    let means = is_held_means self.holdings.items c.args.found self.each_once in
    rw (c.is_held.ensures, c.deref.ensures.value) means
