use Rattle.npf_boxes.specs.Cell.{box_at}
use Rattle.npf_boxes.proofs.box_list.Boxes.get.Goals as goal

pub returns-clause-words : goal.returns-clause-words
unfolding box_at
returns-clause-words c = rw (c.words-width.ensures, c.deref.ensures.value)
