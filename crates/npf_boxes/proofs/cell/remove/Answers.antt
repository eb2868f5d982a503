use Rattle.std.proofs.Common.{◌&&◌, not, ap, ◌∙◌}
use Rattle.npf_bits.specs.Bits.{has}
use Rattle.npf_boxes.specs.Cell.{section}
use Rattle.npf_boxes.proofs.SectionLemmas.{same_lengths, section_kept, section_written}
use Rattle.npf_boxes.proofs.cell.remove.Goals as goal

pub difference_with-requires : goal.difference_with-requires
unfolding section
difference_with-requires c = same_lengths c.args.shape.now _ c.args.words.now _ _ c.requires.dimension c.requires.whole c.requires.other c.section.ensures.set

pub returns-clause-here : goal.returns-clause-here
unfolding section
returns-clause-here c = λ n.
    ap (λ set. has set n) (section_written c.args.shape.now _ c.args.words.now _ c.requires.dimension c.requires.whole c.difference_with.auto.a)
    ∙ c.difference_with.ensures n
    ∙ ap (λ set. has (section c.args.shape.now c.args.dimension c.args.words.now) n && not (has set n)) c.section.ensures.set

pub returns-clause-elsewhere : goal.returns-clause-elsewhere
unfolding section
returns-clause-elsewhere c = λ d low apart.
    section_kept c.args.shape.now c.args.dimension d c.args.words.now _ c.requires.dimension low apart c.requires.whole c.difference_with.auto.a
