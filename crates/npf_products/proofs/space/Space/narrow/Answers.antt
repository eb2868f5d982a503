use Rattle.std.proofs.Common.{◌≡◌, ◌<◌, ◌&&◌, ◌∙◌, [], ap, arith, get_or, length, subst, sym, take}
use Rattle.std.proofs.lemmas.List.{get_or_default, Folds.list_all_more}
use Rattle.npf_boxes.specs.Cell.{in_box}
use Rattle.npf_products.specs.declared.axis.Axis.{Axis}
use Rattle.npf_products.specs.declared.condition.Condition.{Condition}
use Rattle.npf_products.specs.Axis.{cell_of_numbers}
use Rattle.npf_products.specs.OwnSet.{IsOwnSet}
use Rattle.npf_products.specs.Condition.{all_fit, fits}
use Rattle.npf_products.proofs.AddsLemmas.{and_assoc}
use Rattle.npf_products.proofs.BoxingLemmas.{own_set}
use Rattle.npf_products.proofs.space.Space.narrow.Goals as goal

pub narrow_by-requires-clause-own : goal.narrow_by-requires-clause-own
narrow_by-requires-clause-own c =
    let space = c.args.self.now in
    let lists = space.lists.items in
    let axes = space.axes.items in
    let list = c.args.list in
    let at = c.loop-at.at in
    let condition = c.index-conditions-at.result in
    let d = condition.dimension in
    let own = get_or c.as_slice.result.now at 0 in
    let inside : d < length axes = omega (arith, condition.known, space.six) in
    let lists_is : c.as_slice-conditions.result.now ≡ get_or lists list [] =
    c.as_slice-conditions.ensures ∙ c.index.ensures ∙ get_or_default lists list c.index.result.now [] c.requires.list in
    let is : get_or (get_or lists list []) at condition ≡ condition =
    sym (c.index-conditions-at.is ∙ ap (λ xs. get_or xs at condition) lists_is) in
    let axis_is : (none : Axis) → c.index-in-loop-at.result.now ≡ get_or axes d none =
    λ none. c.index-in-loop-at.ensures ∙ get_or_default axes d c.index-in-loop-at.result.now none inside in
    let numbers_is : (none : Axis) → c.as_slice.result.now ≡ get_or (get_or axes d none).numbers.items list [] =
    λ none.
    let axis = c.index-in-loop-at.result.now in
    let low : list < length axis.numbers.items =
    subst (λ (a : Axis). list < length a.numbers.items) (sym (axis_is none))
    (omega (arith, (c.requires.cut d none condition.known).sets.same_count, c.requires.list)) in
    c.as_slice.ensures ∙ c.index-in-loop-at-2.ensures
    ∙ get_or_default axis.numbers.items list c.index-in-loop-at-2.result.now [] low
    ∙ ap (λ (a : Axis). get_or a.numbers.items list []) (axis_is none) in
    subst (λ (x : Condition). IsOwnSet space.kind axes x own) is
    (own_set space.kind space.tables.items lists axes space.six c.requires.cut list at own condition c.requires.list
    (subst (λ xs. at < length xs) lists_is c.loop-at-test.true) (subst (λ (x : Condition). x.dimension < 6) (sym is) condition.known)
    (λ none.
    ap (λ numbers. get_or numbers at 0) (numbers_is none)
    ∙ ap (λ (x : Condition). get_or (get_or (get_or axes x.dimension none).numbers.items list []) at 0) (sym is)))

pub loop-at-preserved : goal.loop-at-preserved
loop-at-preserved c =
    let space = c.args.self.now in
    let inv = c.loop-at.invariant in
    let at = c.loop-at.at in
    let conditions = c.as_slice-conditions.result.now in
    let condition = c.index-conditions-at.result in
    record {
      whole = c.narrow_by.auto.words ∙ inv.whole;
      met = λ numbers small.
          let cell = cell_of_numbers space.axes.items numbers in
          let fit : Condition → _ = fits space.tables.items numbers in
          let before = in_box space.shape c.args.words.now cell in
          let front = all_fit space.tables.items numbers (take at conditions) in
          c.in_ok-narrow_by.ensures.met numbers small
          ∙ ap (λ b. b && fit condition) (inv.met numbers small)
          ∙ and_assoc before front (fit condition)
          ∙ ap (λ b. before && b)
          (ap (λ x. front && fit x) c.index-conditions-at.is ∙ sym (list_all_more fit conditions at condition c.loop-at-test.true));
      within = λ cell held. inv.within cell (c.in_ok-narrow_by.ensures.within cell held);
    }
