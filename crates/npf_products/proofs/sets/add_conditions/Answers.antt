use Rattle.std.proofs.Common.{◌≡◌, [], ◌∷◌, ◌∙◌, ap, arith, get_or, length, subst}
use Rattle.std.proofs.lemmas.List.{get_or_default, length-append}
use Rattle.npf_products.specs.declared.condition.Condition.{Condition}
use Rattle.npf_products.specs.Sets.{IsSet}
use Rattle.npf_products.proofs.PushLemmas.{push_each}
use Rattle.npf_products.proofs.SetsLemmas.{grows_then, set_kept}
use Rattle.npf_products.proofs.sets.add_conditions.Goals as goal

pub loop-condition-preserved : goal.loop-condition-preserved
loop-condition-preserved c =
    let inv = c.loop-condition.invariant in
    let dimension = c.args.dimension in
    let conditions = c.args.conditions.now in
    let i = c.loop-condition.condition-index in
    let sets = c.loop-condition.sets in
    let more = c.add_condition.new.sets in
    let old = c.loop-condition.numbers.items in
    let new = c.push.new.self.items in
    let number = c.in_ok-add_condition.field-0 in
    let longer = ap length c.in_ok-push.ensures.items ∙ length-append old (number ∷ []) in
    let grows = c.in_ok-add_condition.ensures.grows in
    let here : (none : Condition) → (get_or conditions i none).dimension ≡ dimension → IsSet more.ranges.items more.count number (get_or conditions i none).ranges.items =
    λ none. subst (λ (x : Condition). x.dimension ≡ dimension → IsSet more.ranges.items more.count number x.ranges.items)
    (c.condition-item.is ∙ get_or_default conditions i c.condition-item.result none c.loop-condition-test.true) c.in_ok-add_condition.ensures.set in
    record {
      below = c.in_ok-add_condition.ensures.below;
      grows = grows_then _ _ _ _ _ _ inv.grows grows;
      len = omega (arith, longer, inv.len);
      sets_are = λ at none low is.
          push_each (λ k n. (get_or conditions k none).dimension ≡ dimension → IsSet more.ranges.items more.count n (get_or conditions k none).ranges.items)
          old new number 0 i c.in_ok-push.ensures.items inv.len
          (λ k below on. set_kept _ _ _ _ _ _ grows (inv.sets_are k none below on)) (here none) at low is;
    }
