use Rattle.std.proofs.Common.{◌≡◌, map, ap, ◌∙◌}
use Rattle.npf_precedence.specs.{Entry.ordered_rule, Precedence.in_order}
use Rattle.npf_judge.proofs.PlaceLemmas.{has_places}
use Rattle.npf_compare.proofs.compare.compare_rules.Goals as goal

pub order_places-requires-clause-below : goal.order_places-requires-clause-below
order_places-requires-clause-below c =
    let laid : map ordered_rule c.as_slice-2.result.now ≡ in_order c.args.old.now.groups =
    ap (map ordered_rule) c.as_slice-2.ensures.value ∙ c.in_ok-old_order.ensures ∙ ap in_order c.as_slice.ensures in
    (has_places c.args.old.now c.as_slice-2.result.now laid c.each_rule_once.ensures).below

pub order_places-requires-clause-once : goal.order_places-requires-clause-once
order_places-requires-clause-once c =
    let laid : map ordered_rule c.as_slice-2.result.now ≡ in_order c.args.old.now.groups =
    ap (map ordered_rule) c.as_slice-2.ensures.value ∙ c.in_ok-old_order.ensures ∙ ap in_order c.as_slice.ensures in
    (has_places c.args.old.now c.as_slice-2.result.now laid c.each_rule_once.ensures).once

pub order_places-requires-2-clause-below : goal.order_places-requires-2-clause-below
order_places-requires-2-clause-below c =
    let laid : map ordered_rule c.as_slice-4.result.now ≡ in_order c.args.new.now.groups =
    ap (map ordered_rule) c.as_slice-4.ensures.value ∙ c.in_ok-new_order.ensures ∙ ap in_order c.as_slice-3.ensures in
    (has_places c.args.new.now c.as_slice-4.result.now laid c.each_rule_once.ensures).below

pub order_places-requires-2-clause-once : goal.order_places-requires-2-clause-once
order_places-requires-2-clause-once c =
    let laid : map ordered_rule c.as_slice-4.result.now ≡ in_order c.args.new.now.groups =
    ap (map ordered_rule) c.as_slice-4.ensures.value ∙ c.in_ok-new_order.ensures ∙ ap in_order c.as_slice-3.ensures in
    (has_places c.args.new.now c.as_slice-4.result.now laid c.each_rule_once.ensures).once
