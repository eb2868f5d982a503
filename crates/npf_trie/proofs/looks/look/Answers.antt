use Rattle.npf_trie.proofs.LookUpLemmas.{leaf_answers}
use Rattle.npf_trie.proofs.looks.look.Goals as goal

pub returns-in-Leaf-clause-looks : goal.returns-in-Leaf-clause-looks
returns-in-Leaf-clause-looks g c = leaf_answers _ _ _ _ _ _ _ _ _ c.in-Leaf.ensures.comes c.holder_of.ensures.compares c.holder_of.ensures.holder
