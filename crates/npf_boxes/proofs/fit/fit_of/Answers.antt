use Rattle.std.proofs.Common.{arith}
use Rattle.std.proofs.lemmas.Bool.{iff_false}
use Rattle.npf_boxes.proofs.CellLemmas.{apart_sets, within_all}
use Rattle.npf_boxes.proofs.fit.fit_of.Goals as goal

pub returns-then-not-meets : goal.returns-then-not-meets
returns-then-not-meets c =
    apart_sets c.args.shape.now c.args.words.now c.args.other.now _ _ c.loop-dimension.dimension c.loop-dimension-test.true c.section-own.ensures.set c.section-theirs.ensures.set
    (λ n own theirs. iff_false c.meets.ensures c.if-not-meets.true (n, own, theirs))

pub returns-in-0 : goal.returns-in-0
returns-in-0 c = within_all c.args.shape.now c.args.words.now c.args.other.now (λ d low. c.loop-dimension.invariant.none c.in-0.is d (omega arith))
