use Rattle.std.proofs.Common.{Ok, ap, ◌∙◌, arith}
use Rattle.npf_boxes.proofs.SplitLemmas.{gone_on}
use Rattle.npf_boxes.proofs.search.outside.Goals as goal

pub loop-part-preserved : goal.loop-part-preserved
loop-part-preserved c =
    let boxes = c.args.boxes.now in
    let from = c.args.from.now in
    let others = c.args.others.now in
    let on = gone_on boxes from others c.in-Some.part c.loop-part.parts.items c.pop.new.self.items c.examine.new.parts.items c.in-Some.ensures.items
    c.loop-part.invariant.parts c.loop-part.invariant.left (c.in_ok-found.ensures.parts (ap Ok c.in_default-2.is) from others)
    (c.in_ok-found.ensures.kept (ap Ok c.in_default-2.is)) (c.in_ok-found.ensures.left (ap Ok c.in_default-2.is)) in
    record { parts = on.0; left = on.1; most = c.in_ok-found.ensures.most ∙ c.loop-part.invariant.most; rises = omega arith }
