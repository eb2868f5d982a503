use Rattle.npf_expand_values.proofs.KeptLemmas.{spliced_more}
use Rattle.npf_expand_values.proofs.variable.Spliced.add.Goals as goal

pub returns : goal.returns
returns c = λ ifaces bindings atoms binding are is.
    spliced_more ifaces bindings c.args.self.now _ atoms c.args.bound.now binding are is c.in_ok-push.ensures.items c.join-self-2.ensures c.join-self.ensures
