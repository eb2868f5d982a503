use Rattle.std.proofs.Common.{◌+◌, ◌*◌, ap, ◌∙◌}
use Rattle.std.specs.List.{slice_range}
use Rattle.npf_boxes.specs.Cell.{box_at, words_of}
use Rattle.npf_boxes.proofs.BoxListLemmas.{kept, pushed}
use Rattle.npf_boxes.proofs.box_list.Boxes.push.Goals as goal

pub returns-clause-there : goal.returns-clause-there
unfolding box_at
returns-clause-there c =
    let w = words_of c.args.self.now.shape in
    let at = c.args.self.now.count * w in
    ap (λ xs. slice_range xs at (at + w)) c.in_ok-extend_from_slice.ensures.items
    ∙ pushed c.args.self.now.words.items c.args.words.now c.args.self.now.count w c.args.self.now.whole c.requires

pub returns-clause-others : goal.returns-clause-others
unfolding box_at
returns-clause-others c = λ k below.
    let w = words_of c.args.self.now.shape in
    ap (λ xs. slice_range xs (k * w) (k * w + w)) c.in_ok-extend_from_slice.ensures.items
    ∙ kept c.args.self.now.words.items c.args.words.now k c.args.self.now.count w c.args.self.now.whole below
