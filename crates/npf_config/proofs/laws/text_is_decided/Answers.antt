use Rattle.npf_config.proofs.LawLemmas.{never_both, one_meaning}
use Rattle.npf_config.proofs.laws.text_is_decided.Goals as goal

pub returns-clause-one_meaning : goal.returns-clause-one_meaning
returns-clause-one_meaning c = λ ifaces text. one_meaning c.one_tree.ensures c.tree_or_halt.ensures ifaces text

pub returns-clause-never_both : goal.returns-clause-never_both
returns-clause-never_both c = λ ifaces text. never_both c.one_tree.ensures c.tree_or_halt.ensures ifaces text
