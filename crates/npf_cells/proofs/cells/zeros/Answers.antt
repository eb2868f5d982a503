use Rattle.std.proofs.Common.{arith}
use Rattle.npf_cells.proofs.ZeroLemmas.{zeros_more}
use Rattle.npf_cells.proofs.cells.zeros.Goals as goal

pub loop-block-preserved : goal.loop-block-preserved
loop-block-preserved c = zeros_more _ _ _ _ _ c.loop-block.invariant c.in_ok-extend_from_slice.ensures.items c.zeros_of.ensures (omega arith)
