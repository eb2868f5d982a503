use Rattle.std.proofs.Common.{refl}
use Rattle.npf_boxes.specs.Cell.{section}
use Rattle.npf_boxes.proofs.cell.section.Goals as goal

pub returns-clause-set : goal.returns-clause-set
unfolding section
returns-clause-set c = refl
