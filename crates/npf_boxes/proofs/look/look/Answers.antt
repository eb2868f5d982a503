use Rattle.std.proofs.Common.{ap, refl, Ok}
use Rattle.npf_boxes.proofs.LookLemmas.{covered}
use Rattle.npf_boxes.proofs.look.look.Goals as goal

pub returns-then-not-branch-clause-covered : goal.returns-then-not-branch-clause-covered
returns-then-not-branch-clause-covered c = λ _.
    covered c.args.boxes.now c.args.others.now c.args.words.now c.loop-other.words c.loop-other.left.others.items c.loop-other.other-index _ c.loop-other-test.true refl c.loop-other.invariant.left
    (c.in_ok-look_at.ensures.covered (ap Ok c.if-not-branch.true))
