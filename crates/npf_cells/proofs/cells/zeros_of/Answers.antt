use Rattle.npf_cells.proofs.ZeroLemmas.{zeros_part}
use Rattle.npf_cells.proofs.cells.zeros_of.Goals as goal

pub returns : goal.returns
returns c = zeros_part c.args.block.now c.args.count c.requires.zeros c.requires.fits
