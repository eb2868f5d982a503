use Rattle.std.proofs.Common.{◌<◌, ◌≤◌, length, refl, ap, ◌∙◌, arith}
use Rattle.std.proofs.lemmas.List.{length-set, Elements.{All-set}}
use Rattle.std.proofs.lemmas.Option.{slice_get_read}
use Rattle.npf_judge.specs.Order.{entry_place}
use Rattle.npf_judge.specs.Place.{IsRulePlace}
use Rattle.npf_compare.proofs.PlaceLemmas.{last_stays, places_end, rules_more}
use Rattle.npf_compare.proofs.places.order_places.Goals as goal

pub index_mut-requires : goal.index_mut-requires
index_mut-requires c =
    let order = c.args.order.now in
    let here : IsRulePlace order c.loop-at.at c.index-order-at.result.place =
    ap entry_place (slice_get_read order (length order) c.loop-at.at c.index-order-at.result refl (omega (arith, c.loop-at-test.true)) c.index-order-at.is) in
    omega (arith, c.requires.below c.loop-at.at c.index-order-at.result.place here, c.loop-at.invariant.count)

pub loop-at-preserved : goal.loop-at-preserved
loop-at-preserved c =
    let order = c.args.order.now in
    let at = c.loop-at.at in
    let place = c.index-order-at.result.place in
    let places = c.loop-at.places.items in
    let inv = c.loop-at.invariant in
    let here : IsRulePlace order at place =
    ap entry_place (slice_get_read order (length order) at c.index-order-at.result refl (omega (arith, c.loop-at-test.true)) c.index-order-at.is) in
    let low : place < length order = c.requires.below at place here in
    record {
      count = length-set places place at ∙ inv.count;
      within = All-set (λ k. k ≤ length order) places place at (omega (arith, c.loop-at-test.true)) inv.within;
      last = last_stays places place at (length order) low inv.last;
      rules = rules_more order places at place here (omega (arith, low, inv.count)) c.requires.once inv.rules;
    }

pub returns : goal.returns
returns c = record {
  count = c.loop-at.invariant.count;
  within = c.loop-at.invariant.within;
  last = c.loop-at.invariant.last;
  rules = places_end c.args.order.now c.loop-at.places.items c.loop-at.at (omega (arith, c.loop-at-test.false)) c.loop-at.invariant.rules;
}
