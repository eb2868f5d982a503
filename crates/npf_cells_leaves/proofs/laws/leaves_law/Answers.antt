use Rattle.npf_cells_leaves.proofs.{ParentLemmas.hangs_in_one_place, StandLemmas.stands_in_published, TakingOffLemmas.taking_off_keeps_trie}
use Rattle.npf_cells_leaves.proofs.laws.leaves_law.Goals as goal

pub returns-clause-stands : goal.returns-clause-stands
returns-clause-stands g c = stands_in_published

pub returns-clause-hangs : goal.returns-clause-hangs
returns-clause-hangs g c = hangs_in_one_place

pub returns-clause-taken_off : goal.returns-clause-taken_off
returns-clause-taken_off g c = taking_off_keeps_trie
