use Rattle.std.{proofs.Common.{rules, ◌≡◌, ◌+◌, [], ◌∷◌, ◌++◌, All, map, length, ap, sym, subst, ◌∙◌, arith, Some}, specs.List.Contains}
use Rattle.std.{specs.Vec.Iter.into_iter_items, proofs.lemmas.List.{append_assoc, map-append, Elements.{All-push, All-pop, All-contains_itself, All-nil}}}
use Rattle.npf_runner.specs.{declared.worker.Lane.Lane, Crew.worker_of_lane}
use Rattle.npf_runner.proofs.crew.lanes_with.Goals as goal

pub loop-worker-init : goal.loop-worker-init
loop-worker-init g c =
    let items : into_iter_items c.into_iter-worker-iterator.result ≡ c.args.workers.items = search rules in
    let none : c.args.lanes.items ≡ [] = c.requires.empty in (
      tt,
      tt,
      search rules,
      search rules,
      search rules,
      sym items ∙ ap (λ z. map worker_of_lane z ++ into_iter_items c.into_iter-worker-iterator.result) (sym none),
      All-contains_itself c.args.passes.now.items,
      subst (λ z. All (λ (lane : Lane _). Contains c.args.passes.now.items lane.pass) z) (sym none) (All-nil (λ (lane : Lane _). Contains c.args.passes.now.items lane.pass)),
    )

pub loop-worker-preserved : goal.loop-worker-preserved
loop-worker-preserved g c =
    let worker = c.in-Some.worker in
    let pass = c.unwrap-pass.result in
    let before = into_iter_items c.loop-worker.worker-iterator in
    let after = into_iter_items c.next.new.self in
    let inv = c.loop-worker.invariant in
    let lanes = c.loop-worker.lanes.items in
    let lane : Lane _ = record { pass = pass; worker = worker } in
    let items : before ≡ worker ∷ after = c.in-Some.ensures.steps.0 in
    let fewer : length before ≡ length after + 1 = ap length items ∙ omega arith in
    let popped : c.loop-worker.passes.items ≡ c.pop.new.self.items ++ pass ∷ [] = search rules in
    let pushed : c.push_reserved.new.self.items ≡ lanes ++ lane ∷ [] = search rules in
    let P : g.row.P.Denot → Type 0 = λ pass. Contains c.args.passes.now.items pass in
    let both = All-pop P c.loop-worker.passes.items c.pop.new.self.items (Some pass) popped inv.6 in (
      tt,
      tt,
      search rules,
      search rules,
      search rules,
      inv.5 ∙ (ap (λ z. map worker_of_lane lanes ++ z) items
          ∙ (sym (append_assoc (map worker_of_lane lanes) (worker ∷ []) after)
          ∙ ap (λ z. z ++ after) (sym (ap (map worker_of_lane) pushed ∙ map-append worker_of_lane lanes (lane ∷ []))))),
      both.0,
      subst (λ z. All (λ lane. P lane.pass) z) (sym pushed) (All-push (λ lane. P lane.pass) lanes lane inv.7 both.1),
    )
