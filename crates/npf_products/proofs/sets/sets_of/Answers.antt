use Rattle.std.proofs.Common.{◌≡◌, ◌<◌, ℕ, List, [], ◌∷◌, ◌∙◌, ap, arith, get_or, length, subst}
use Rattle.std.proofs.lemmas.List.{get_or_default, length-append}
use Rattle.npf_products.specs.declared.condition.Condition.{Condition}
use Rattle.npf_products.specs.Condition.{Ranges}
use Rattle.npf_products.specs.Sets.{AreConditionSets, IsSet}
use Rattle.npf_products.proofs.PushLemmas.{push_each}
use Rattle.npf_products.proofs.SetsLemmas.{conditions_kept, tables_kept}
use Rattle.npf_products.proofs.sets.sets_of.Goals as goal

pub loop-conditions-init : goal.loop-conditions-init
loop-conditions-init c =
    let sets = c.in_ok-sets.sets in
    record {
      below = c.in_ok-sets.ensures.below;
      tables_are =
          subst (λ (ts : List Ranges). (table : ℕ) → table < length ts → IsSet sets.ranges.items sets.count table (get_or ts table [])) c.tables_in.ensures
          c.in_ok-sets.ensures.tables;
      len = ap length c.new-numbers.ensures.items;
      lens = λ list low. absurd (omega arith);
      lists_are = λ list low. absurd (omega arith);
    }

pub loop-conditions-preserved : goal.loop-conditions-preserved
loop-conditions-preserved c =
    let inv = c.loop-conditions.invariant in
    let dimension = c.args.dimension in
    let lists = c.args.lists.now in
    let i = c.loop-conditions.conditions-index in
    let sets = c.loop-conditions.sets in
    let more = c.add_conditions.new.sets in
    let old = c.loop-conditions.numbers.items in
    let new = c.push.new.self.items in
    let numbers = c.in_ok-add_conditions.field-0 in
    let longer = ap length c.in_ok-push.ensures.items ∙ length-append old (numbers ∷ []) in
    let grows = c.in_ok-add_conditions.ensures.grows in
    let own : c.as_slice.result.now ≡ get_or lists i [] =
    c.as_slice.ensures ∙ c.conditions-item.is ∙ get_or_default lists i c.conditions-item.result [] c.loop-conditions-test.true in
    record {
      below = c.in_ok-add_conditions.ensures.below;
      tables_are = tables_kept dimension c.args.tables.now _ _ _ _ grows inv.tables_are;
      len = omega (arith, longer, inv.len);
      lens = push_each (λ k ns. length ns ≡ length (get_or lists k [])) old new numbers [] i c.in_ok-push.ensures.items inv.len inv.lens
          (c.in_ok-add_conditions.ensures.len ∙ ap length own);
      lists_are = push_each (λ k ns. AreConditionSets dimension more.ranges.items more.count (get_or lists k []) ns) old new numbers [] i c.in_ok-push.ensures.items
          inv.len (λ k low. conditions_kept dimension (get_or lists k []) (get_or old k []) _ _ _ _ grows (inv.lists_are k low))
          (subst (λ (l : List Condition). AreConditionSets dimension more.ranges.items more.count l numbers) own c.in_ok-add_conditions.ensures.numbers);
    }
