use Rattle.std.proofs.Common.{arith}
use Rattle.npf_pieces.proofs.piece.piece_of.Goals as goal

pub is_bad-requires-clause-fits : goal.is_bad-requires-clause-fits
is_bad-requires-clause-fits c = omega (arith, c.piece_at-piece.ensures.begins.within, c.piece_at-piece.ensures.placed.within, c.requires)
