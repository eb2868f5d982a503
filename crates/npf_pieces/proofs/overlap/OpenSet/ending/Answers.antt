use Rattle.npf_pieces.proofs.OpenSetLemmas.{ending_known}
use Rattle.npf_pieces.proofs.overlap.OpenSet.ending.Goals as goal

pub returns : goal.returns
returns c = λ set known.
    rw c.ending_by.ensures (rw c.is_whole-whole.ensures (rw c.is_too_long-long.ensures (ending_known set c.args.self.now known)))
