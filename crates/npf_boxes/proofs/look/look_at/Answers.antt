use Rattle.npf_boxes.proofs.LookLemmas.{narrows_open, narrows_unit}
use Rattle.npf_boxes.proofs.look.look_at.Goals as goal

pub returns-in-Unit-clause-narrows : goal.returns-in-Unit-clause-narrows
returns-in-Unit-clause-narrows c = λ _.
    narrows_unit c.args.boxes.now c.args.other c.in-Unit.dimension c.args.words.now c.remove.new.words c.get-other_words.result.now c.args.left.now.others.items
    c.in-Unit.ensures.0 c.get-other_words.ensures.words c.remove.ensures.here c.remove.ensures.elsewhere c.in-Unit.ensures.1

pub returns-in_ok-add-in-Open-clause-narrows : goal.returns-in_ok-add-in-Open-clause-narrows
returns-in_ok-add-in-Open-clause-narrows c = λ _.
    narrows_open c.args.boxes.now c.args.other c.args.words.now c.args.left.now.others.items c.add.new.self.others.items c.requires.known c.in_ok-add-in-Open.ensures.others
