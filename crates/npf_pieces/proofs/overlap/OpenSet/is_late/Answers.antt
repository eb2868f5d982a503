use Rattle.std.proofs.Common.{refl}
use Rattle.npf_pieces.proofs.overlap.OpenSet.is_late.Goals as goal

pub returns : goal.returns
returns c = λ set known. rw c.has_waited.ensures (rw known.begun refl)
