use Rattle.std.proofs.Common.{rules, ◌≡◌, ◌&&◌, ℕ, length, ap, ◌∙◌, arith}
use Rattle.std.proofs.lemmas.Bool.{iff_false}
use Rattle.npf_bits.specs.Bits.{has}
use Rattle.npf_boxes.proofs.CellLemmas.{all_written, apart_sets, box_met, has_met, met_more}
use Rattle.npf_boxes.proofs.cell.meet.Goals as goal

pub returns-then-not-meets-clause-none : goal.returns-then-not-meets-clause-none
returns-then-not-meets-clause-none c = λ _.
    apart_sets c.args.shape.now c.args.a.now c.args.b.now _ _ c.loop-dimension.dimension c.loop-dimension-test.true c.section.ensures.set c.section-in-loop-dimension.ensures.set
    (λ n own theirs. iff_false c.meets.ensures c.if-not-meets.true (n, own, theirs))

pub loop-dimension-preserved : goal.loop-dimension-preserved
loop-dimension-preserved c =
    met_more c.args.shape.now c.args.a.now c.args.b.now _ _ c.loop-dimension.dimension c.section.ensures.set c.section-in-loop-dimension.ensures.set
    c.loop-dimension.invariant (c.meets.ensures.0 c.if-not-meets.false)

-- the words of both are met
each : (c : goal.After-both-3-1) → (k : ℕ) → has c.intersect_with.new.a k ≡ (has c.args.a.now k && has c.args.b.now k)
each c k =
    let items : c.in_ok-both.both.items ≡ c.args.a.now = search rules in
    c.intersect_with.ensures k ∙ ap (λ xs. has xs k && has c.args.b.now k) (c.deref_mut.ensures.value ∙ items)

pub returns-clause-has_cell : goal.returns-clause-has_cell
returns-clause-has_cell c =
    let is : length c.intersect_with.new.a ≡ c.in_ok-both.both.len = omega arith in
    rw (all_written _ _ _ is) (has_met c.args.shape.now c.args.a.now c.args.b.now c.intersect_with.new.a (each c) (λ d low. c.loop-dimension.invariant d (omega arith)))

pub returns-clause-both : goal.returns-clause-both
returns-clause-both c =
    let is : length c.intersect_with.new.a ≡ c.in_ok-both.both.len = omega arith in
    rw (all_written _ _ _ is) (λ cell. box_met c.args.shape.now c.args.a.now c.args.b.now c.intersect_with.new.a cell (each c))
