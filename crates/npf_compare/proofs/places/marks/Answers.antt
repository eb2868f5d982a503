use Rattle.std.proofs.Common.{false, length, slice_index, subst, ap, ◌∙◌}
use Rattle.std.specs.List.{Contains}
use Rattle.std.proofs.lemmas.List.{length-replicate, length-set, take_all}
use Rattle.npf_compare.proofs.PlaceLemmas.{marked_more, nothing_marked}
use Rattle.npf_compare.proofs.places.marks.Goals as goal

pub loop-place-init : goal.loop-place-init
loop-place-init c = record {
  count = ap length (c.in_ok-marks.ensures.items_if_clones_equal (λ y same. same)) ∙ length-replicate c.args.count false;
  marked = λ k is. absurd (nothing_marked c.in_ok-marks.marks.items c.args.count k (c.in_ok-marks.ensures.items_if_clones_equal (λ y same. same)) is);
}

pub loop-place-preserved : goal.loop-place-preserved
loop-place-preserved c = record {
  count = length-set c.loop-place.marks.items (slice_index c.args.places.now c.loop-place.place-index) _ ∙ c.loop-place.invariant.count;
  marked = marked_more c.loop-place.marks.items c.args.places.now c.loop-place.place-index c.loop-place-test.true c.loop-place.invariant.marked;
}

pub returns : goal.returns
returns c = λ k is. subst (λ xs. Contains xs k) (take_all c.loop-place.place-index c.args.places.now c.loop-place-test.false) (c.loop-place.invariant.marked k is)
