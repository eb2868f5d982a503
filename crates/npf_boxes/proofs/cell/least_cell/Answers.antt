use Rattle.std.proofs.Common.{arith, length-set}
use Rattle.npf_boxes.proofs.CellLemmas.{IsLeastBelow, least_more, least_whole, no_cell}
use Rattle.npf_boxes.proofs.cell.least_cell.Goals as goal

pub returns-in_default : goal.returns-in_default
returns-in_default c = no_cell c.args.shape.now c.args.words.now _ c.loop-dimension.dimension c.loop-dimension-test.true c.section.ensures.set c.in_default.ensures

pub loop-dimension-preserved : goal.loop-dimension-preserved
loop-dimension-preserved c =
    let before : IsLeastBelow c.args.shape.now c.args.words.now c.loop-dimension.cell c.loop-dimension.dimension =
    record { there = c.loop-dimension.invariant.there; least = c.loop-dimension.invariant.least } in
    let more = least_more c.args.shape.now c.args.words.now c.loop-dimension.cell _ c.loop-dimension.dimension c.in-Some.least (omega arith) c.section.ensures.set c.in-Some.ensures before in
    record { len = rw length-set c.loop-dimension.invariant.len; there = more.there; least = more.least }

pub returns : goal.returns
returns c =
    least_whole c.args.shape.now c.args.words.now c.loop-dimension.cell
    (record {
      there = λ d low. c.loop-dimension.invariant.there d (omega arith);
      least = λ d n low. c.loop-dimension.invariant.least d n (omega arith);
    })
