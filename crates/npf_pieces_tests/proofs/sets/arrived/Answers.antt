use Rattle.std.proofs.{Common.{rules, arith}, lemmas.Grind.common_steps}
use Rattle.npf_pieces.proofs.OpenSetLemmas.{taken_of}
use Rattle.npf_pieces_tests.proofs.sets.arrived.Goals as goal

pub returns : goal.returns
returns g c =
    taken_of _ _ (first_of (search rules, grind (arith, common_steps))) c.in-Piece.ensures.good c.in-Piece.ensures.placed
