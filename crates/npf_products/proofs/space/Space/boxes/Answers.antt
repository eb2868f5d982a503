use Rattle.std.proofs.Common.{◌≡◌, ◌-◌, ◌∙◌, ap, arith, inl, inr, subst, sym}
use Rattle.std.proofs.lemmas.Bool.{cases_eq}
use Rattle.npf_boxes.specs.Cell.{box_at}
use Rattle.npf_products.specs.Axis.{IsCell}
use Rattle.npf_products.specs.Space.{IsNarrowed, product_count}
use Rattle.npf_products.proofs.BoxesLemmas.{IsFull, boxes_are}
use Rattle.npf_products.proofs.space.Space.boxes.Goals as goal

pub loop-list-preserved : goal.loop-list-preserved
loop-list-preserved c =
    let space = c.args.self.now in
    let inv = c.loop-list.invariant in
    let list = c.loop-list.list in
    let whole = c.in_ok-whole.whole.items in
    let words = c.in_ok-words.words.items in
    let boxes = c.push.new.self in
    let boxed : box_at boxes list ≡ words = ap (box_at boxes) (sym inv.count) ∙ c.in_ok-push.ensures.there ∙ c.as_slice-in-loop-list-3.ensures.value in
    let narrowed : IsNarrowed space list whole words =
    subst (λ old. IsNarrowed space list old words) c.as_slice-in-loop-list-2.ensures.value c.in_ok-words.ensures.narrowed in
    record {
      shape_is = c.in_ok-push.ensures.shape ∙ inv.shape_is;
      count = omega (arith, c.in_ok-push.ensures.counted, inv.count);
      each = λ k low. elim (cases_eq k list) [
        | inl same ↦
            subst (λ n. IsNarrowed space n whole (box_at boxes n)) (sym same) (subst (λ box. IsNarrowed space list whole box) (sym boxed) narrowed)
        | inr other ↦
            subst (λ box. IsNarrowed space k whole box) (sym (c.in_ok-push.ensures.others k (omega (arith, inv.count)))) (inv.each k (omega arith))
      ];
      most = c.in_ok-take.ensures.most ∙ inv.most;
      rises = omega (arith, c.in_ok-take.ensures.rises, inv.rises);
      counted = omega (arith, c.in_ok-take.ensures.counted, inv.counted);
    }

pub returns-clause-boxes : goal.returns-clause-boxes
returns-clause-boxes c =
    let space = c.args.self.now in
    let inv = c.loop-list.invariant in
    let full = c.in_ok-full.full.items in
    let whole = c.in_ok-whole.whole.items in
    let is_full : IsFull space full = record {
      all = λ cell is. c.in_ok-full.ensures.all cell (subst (λ axes. IsCell axes cell) (sym c.as_slice-2.ensures.value) is);
      cells = λ cell within. subst (λ axes. IsCell axes cell) c.as_slice-2.ensures.value (c.in_ok-full.ensures.cells cell within);
    } in
    let last : c.len-last.result - 1 ≡ product_count space = omega (arith, c.len-last.ensures, space.lists.ok) in
    let narrowed : IsNarrowed space (product_count space) full whole =
    subst (λ n. IsNarrowed space n full whole) last
    (subst (λ old. IsNarrowed space (c.len-last.result - 1) old whole) c.as_slice-4.ensures.value c.in_ok-whole.ensures.narrowed) in
    let count : c.loop-list.boxes.count ≡ product_count space = omega (arith, inv.count, last, c.loop-list-test.false, c.loop-list.auto.list-end) in
    boxes_are space c.requires full whole c.loop-list.boxes c.push-2.new.self is_full narrowed inv.shape_is count
    (λ k low. inv.each k (omega (arith, inv.count, count))) c.in_ok-push-2.ensures.shape c.in_ok-push-2.ensures.counted
    (c.in_ok-push-2.ensures.there ∙ c.as_slice-5.ensures.value) c.in_ok-push-2.ensures.others
