use Rattle.std.proofs.Common.{◌<◌, length, ap, refl, ◌∙◌, arith}
use Rattle.std.proofs.lemmas.List.{length-set}
use Rattle.std.proofs.lemmas.Option.{slice_get_read}
use Rattle.npf_judge.specs.Order.{entry_place}
use Rattle.npf_judge.specs.Place.{IsRulePlace}
use Rattle.npf_lint.proofs.OrderLemmas.{findings_more}
use Rattle.npf_lint.proofs.order.RuleOrder.findings.Goals as goal

pub index_mut-requires : goal.index_mut-requires
index_mut-requires c =
    let order = c.args.self.now.order.now in
    let here : IsRulePlace order c.loop-at.at c.entry-item.result.place =
    ap entry_place (slice_get_read order (length order) c.loop-at.at c.entry-item.result refl (omega (arith, c.loop-at-test.true)) c.entry-item.is) in
    omega (arith, c.requires.places.below c.loop-at.at c.entry-item.result.place here, c.loop-at.invariant.count)

pub loop-at-preserved : goal.loop-at-preserved
loop-at-preserved c =
    let order = c.args.self.now.order.now in
    let place = c.entry-item.result.place in
    let here : IsRulePlace order c.loop-at.at place =
    ap entry_place (slice_get_read order (length order) c.loop-at.at c.entry-item.result refl (omega (arith, c.loop-at-test.true)) c.entry-item.is) in
    let low : place < length c.loop-at.findings.items = omega (arith, c.requires.places.below c.loop-at.at place here, c.loop-at.invariant.count) in
    record {
      count = length-set c.loop-at.findings.items place c.in_ok-findings-2.field-0 ∙ c.loop-at.invariant.count;
      each = findings_more c.args.self.now.model.now c.args.self.now.packets.tables.now order c.requires.places c.loop-at.at place here c.loop-at.findings.items low
          c.in_ok-findings-2.field-0 c.in_ok-findings-2.ensures.found c.loop-at.invariant.each;
      most = c.in_ok-findings-2.ensures.most ∙ c.loop-at.invariant.most;
      rises = omega (arith, c.in_ok-findings-2.ensures.rises, c.loop-at.invariant.rises);
    }
