use Rattle.npf_expand_values.proofs.KeptLemmas.{spliced_behind}
use Rattle.npf_expand_values.proofs.variable.Def.of.Goals as goal

pub returns-clause-behind : goal.returns-clause-behind
returns-clause-behind c = λ ifaces bindings atoms are alone. spliced_behind ifaces bindings _ c.args.values atoms c.in_ok-of.ensures.parts (c.in_ok-of.ensures.kept ifaces bindings atoms are) are alone
