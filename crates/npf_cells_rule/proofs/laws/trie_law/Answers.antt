use Rattle.npf_cells_rule.proofs.TrieLawLemmas.{ends_name_holders, leaves_are_kept, nodes_are_kept}
use Rattle.npf_cells_rule.proofs.laws.trie_law.Goals as goal

pub returns-clause-ends : goal.returns-clause-ends
returns-clause-ends g c = ends_name_holders g.L.Law.meaning

pub returns-clause-leaves : goal.returns-clause-leaves
returns-clause-leaves g c = leaves_are_kept g.L.Law.meaning

pub returns-clause-nodes : goal.returns-clause-nodes
returns-clause-nodes g c = nodes_are_kept g.L.Law.meaning
