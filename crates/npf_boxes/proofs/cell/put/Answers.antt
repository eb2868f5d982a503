use Rattle.std.proofs.Common.{◌∙◌}
use Rattle.npf_boxes.specs.Cell.{section}
use Rattle.npf_boxes.proofs.SectionLemmas.{section_kept, section_written}
use Rattle.npf_boxes.proofs.cell.put.Goals as goal

pub returns-clause-here : goal.returns-clause-here
unfolding section
returns-clause-here c =
    section_written c.args.shape.now _ c.args.words.now _ c.requires.dimension c.requires.whole c.copy_from_slice.auto.self
    ∙ c.copy_from_slice.ensures.after

pub returns-clause-elsewhere : goal.returns-clause-elsewhere
unfolding section
returns-clause-elsewhere c = λ d low apart.
    section_kept c.args.shape.now c.args.dimension d c.args.words.now _ c.requires.dimension low apart c.requires.whole c.copy_from_slice.auto.self
