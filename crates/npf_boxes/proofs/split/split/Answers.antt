use Rattle.std.proofs.Common.{rules, ◌≡◌, ℕ, List, subst, ap, ◌∙◌}
use Rattle.npf_boxes.specs.Cell.{in_box, section}
use Rattle.npf_boxes.proofs.CellLemmas.{all_written, within_sets}
use Rattle.npf_boxes.proofs.SplitLemmas.{IsCut, IsKept, split_last, split_open, split_within}
use Rattle.npf_boxes.proofs.split.split.Goals as goal
use Rattle.npf_boxes.proofs.split.split.Goals.{then-not-is_within+in_ok-words+in_ok-clone+in_ok-push, else-not-is_within}

pub loop-dimension-preserved : goal.loop-dimension-preserved
loop-dimension-preserved c =
    let boxes = c.args.boxes.now in
    let at = c.loop-dimension.dimension in
    let theirs = c.get-other.result.now in
    let before = c.args.parts.now.items in
    let rest = c.loop-dimension.rest.items in
    let own_is = c.section.ensures.set ∙ ap (section boxes.shape at) c.deref.ensures.value in
    elim c.if-not-is_within.branch [
      | then-not-is_within+in_ok-words+in_ok-clone+in_ok-push w ↦
          let own : w.deref_mut.result.now ≡ rest =
          let cloned : w.in_ok-words.words.items ≡ rest = search rules in
          w.deref_mut.ensures.value ∙ cloned in
          let cut : IsCut boxes.shape at rest theirs w.remove.new.words =
          let P : List ℕ → Type 0 = λ xs. IsCut boxes.shape at xs theirs w.remove.new.words in
          subst P own (record { len = w.remove.auto.words; here = w.remove.ensures.here; elsewhere = w.remove.ensures.elsewhere }) in
          let kept : IsKept boxes.shape at rest theirs w.keep.new.words =
          let P : List ℕ → Type 0 = λ xs. IsKept boxes.shape at xs theirs w.keep.new.words in
          subst P w.deref_mut-then-not-is_within.ensures.value (record { len = w.keep.auto.words; here = w.keep.ensures.here; elsewhere = w.keep.ensures.elsewhere }) in
          let rest_is : c.if-not-is_within.rest.items ≡ w.keep.new.words = ap (λ v. v.items) w.rest-is ∙ all_written _ rest _ (w.keep.auto.words ∙ w.deref_mut-then-not-is_within.ensures.len) in
          let parts_is = ap (λ v. v.items) w.parts-is ∙ w.in_ok-push.ensures.items in
          let shared : w.in_ok-clone.field-0.value.items ≡ c.args.part.others.value.items = search rules in
          rw rest_is
          (split_open boxes c.args.part _ theirs before rest w.remove.new.words w.keep.new.words c.loop-dimension.parts.items c.if-not-is_within.parts.items at c.loop-dimension-test.true
          c.loop-dimension.invariant cut kept (all_written _ _ _ (w.remove.auto.words ∙ w.deref_mut.ensures.len)) shared parts_is)
      | else-not-is_within w ↦
          rw (w.parts-is, w.rest-is)
          (split_within boxes c.args.part theirs before rest c.loop-dimension.parts.items at c.loop-dimension-test.true c.loop-dimension.invariant
          (within_sets boxes.shape rest theirs _ _ at own_is c.section-in-loop-dimension.ensures.set (c.is_within.ensures.0 w.if-not-is_within.false)))
    ]

pub returns-clause-split : goal.returns-clause-split
returns-clause-split c = λ cell in_own out.
    split_last c.args.boxes.now c.args.part c.get-other.result.now c.args.parts.now.items c.loop-dimension.rest.items c.loop-dimension.parts.items c.loop-dimension.dimension
    c.loop-dimension-test.false c.loop-dimension.invariant cell in_own (ap (λ words. in_box c.args.boxes.now.shape words cell) c.get-other.ensures.words ∙ out)
