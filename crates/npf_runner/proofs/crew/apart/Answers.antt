use Rattle.std.{proofs.{Common.{rules, ◌≡◌, ◌+◌, [], ◌∷◌, ◌++◌, map, length, ap, sym, ◌∙◌, arith}, lemmas.List.append_assoc}, specs.Vec.Iter.into_iter_items}
use Rattle.npf_runner_dealing.specs.Lanes.{queue_items}
use Rattle.npf_runner.{specs.Crew.{pass_of_lane, outcomes_of_lane, packets_of_lane}, proofs.JobLemmas.mapped_more}
use Rattle.npf_runner.proofs.crew.apart.Goals as goal

pub loop-lane-preserved : goal.loop-lane-preserved
loop-lane-preserved g c =
    let lane = c.in-Some.lane in
    let before = into_iter_items c.loop-lane.lane-iterator in
    let after = into_iter_items c.next.new.self in
    let inv = c.loop-lane.invariant in
    let passes = c.loop-lane.passes.items in
    let outcomes = c.loop-lane.queues.outcomes.items in
    let packets = c.loop-lane.queues.packets.items in
    let items : before ≡ lane ∷ after = c.in-Some.ensures.steps.0 in
    let fewer : length before ≡ length after + 1 = ap length items ∙ omega arith in
    let kept : c.push_reserved.new.self.items ≡ passes ++ lane.pass ∷ [] = search rules in
    let come : c.push_reserved-in-loop-lane.new.self.items ≡ outcomes ++ c.from.result ∷ [] = search rules in
    let sent : c.push_reserved-in-loop-lane-2.new.self.items ≡ packets ++ c.from-in-loop-lane.result ∷ [] = search rules in (
      tt,
      tt,
      search rules,
      search rules,
      search rules,
      search rules,
      inv.6 ∙ (ap (λ z. passes ++ map pass_of_lane z) items ∙ (sym (append_assoc passes (lane.pass ∷ []) (map pass_of_lane after)) ∙ ap (λ z. z ++ map pass_of_lane after) (sym kept))),
      inv.7 ∙ mapped_more outcomes_of_lane queue_items outcomes c.push_reserved-in-loop-lane.new.self.items before after lane c.from.result items (search rules) come,
      inv.8 ∙ mapped_more packets_of_lane queue_items packets c.push_reserved-in-loop-lane-2.new.self.items before after lane c.from-in-loop-lane.result items (search rules) sent,
    )
