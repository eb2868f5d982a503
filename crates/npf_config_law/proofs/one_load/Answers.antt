use Rattle.npf_config_law.proofs.LoadLemmas.{one_load}
use Rattle.npf_config_law.proofs.one_load.Goals as goal

pub returns : goal.returns
returns c = λ files old now ifaces text told well one two is there.
    one_load c.one_tree.ensures c.tree_or_halt.ensures c.one_place.ensures c.text_is_decided.ensures.one_meaning c.text_is_decided.ensures.never_both
    files old now told well ifaces text one two is there
