use Rattle.npf_bits.proofs.BitLemmas.{has_none}
use Rattle.npf_cut.proofs.set_bits.SetBits.new.Goals as goal

pub returns-clause-none : goal.returns-clause-none
returns-clause-none c = λ set class. rw (c.in_ok-vec.ensures.items_if_clones_equal (λ y e. e)) (has_none _ _)
