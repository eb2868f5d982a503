use Rattle.std.proofs.{Common.{rules, ◌≡◌, ◌<◌, ◌+◌, [], ◌∷◌, ◌++◌, All, map, length, refl, ap, ◌∙◌, inr, Some}, lemmas.List.{length-append, length-map}}
use Rattle.std.proofs.lemmas.List.Elements.{All-pop, All-weaker}
use Rattle.npf_connections.specs.{Pass.IsPass, Stay.IsOut}
use Rattle.npf_flow.specs.Flows.{flow_law}
use Rattle.npf_runner_passes.specs.Parts.{IsGiven}
use Rattle.npf_publish.specs.ConfReader.{reader_range}
use Rattle.npf_engine.specs.Handles.{configurations}
use Rattle.npf_runner.specs.{declared.worker.{Lane.Lane, Worker.Worker}, Commands.Collects, Crew.{HasJobs, IsEquipped, done_of_lane, pass_of_lane}}
use Rattle.npf_runner.{specs.Lanes.HasWorked, proofs.PlayedLemmas.are_queues_of}
use Rattle.npf_runner.proofs.TaskLemmas.{IsCrew, same_others, zip_places, All-unmap, All-passes, All-workers, All-others, ComesBack, can_work}
use Rattle.npf_runner.proofs.{TaskLemmas.{all_back, begun_given, begun_legal, control_given, crew_whole, is_back}, phase.run_crew.Given.Over}
use Rattle.npf_runner.proofs.phase.run_crew.Goals as goal
use Rattle.npf_runner.proofs.phase.run_crew.Goals.{After-push_reserved}

-- each pass that was split off is outside, but the last, which is the control task's
pub side_by_side-own-requires-clause-out : goal.side_by_side-own-requires-clause-out
side_by_side-own-requires-clause-out g c lifetimes outlives =
    let Out = IsOut flow_law (g.C.Connections.fits c.args.shared.now.conns.now) g.C.Connections.view in
    let popped : c.in_ok-passes.passes.items ≡ c.pop.new.self.items ++ c.unwrap-own.result ∷ [] = search rules in
    (All-pop Out c.in_ok-passes.passes.items c.pop.new.self.items (Some c.unwrap-own.result) popped c.in_ok-passes.ensures.given).1

pub side_by_side-own-requires-clause-can : goal.side_by_side-own-requires-clause-can
side_by_side-own-requires-clause-can g c lifetimes outlives =
    let V = g.C.Connections.view in
    let fits = g.C.Connections.fits c.args.shared.now.conns.now in
    let Out = IsOut flow_law fits V in
    let old = V c.args.pass.now in
    let passes = c.in_ok-passes.passes.items in
    let left = c.pop.new.self.items in
    let lanes = c.lanes_with-lanes.result.items in
    let crew = c.args.crew.items in
    let popped : passes ≡ left ++ c.unwrap-own.result ∷ [] = search rules in
    let given = (All-pop (λ pass. IsGiven old (V pass)) passes left (Some c.unwrap-own.result) popped (All-unmap (IsGiven old) V passes c.in_ok-passes.ensures.spreads.each)).0 in
    let out = (All-pop Out passes left (Some c.unwrap-own.result) popped c.in_ok-passes.ensures.given).0 in
    let workers = c.lanes_with-lanes.ensures.workers in
    can_work fits V old (length c.args.shared.now.configs.now) lanes
    (All-passes Out left lanes out c.lanes_with-lanes.ensures.passes)
    (All-passes (λ pass. IsGiven old (V pass)) left lanes given c.lanes_with-lanes.ensures.passes)
    (All-workers IsEquipped lanes crew workers c.requires.ready)
    (All-workers HasJobs lanes crew workers c.requires.jobs)
    (All-workers (λ (worker : Worker). (reader_range worker.reader).last < length c.args.shared.now.configs.now) lanes crew workers c.requires.readers)

pub take_in-requires-clause-others : goal.take_in-requires-clause-others
take_in-requires-clause-others g c lifetimes outlives =
    let Out = IsOut flow_law (g.C.Connections.fits c.args.shared.now.conns.now) g.C.Connections.view in
    let ended = c.side_by_side-own.result.1.items in
    let controlled = c.side_by_side-own.result.0.0 in
    let others = c.push_reserved.new.self.items in
    let same = same_others others c.apart-queues.new.passes.items c.args.room.others.items ended controlled (search rules) c.apart-queues.ensures.passes c.requires.room.others in
    All-others Out others ended controlled same c.side_by_side-own.ensures.lanes c.side_by_side-own.ensures.out

-- all passes are ready to be taken in
come_back : (g : Over) (c : After-push_reserved g) → All (λ pass. ComesBack (g.C.Connections.view pass)) c.push_reserved.new.self.items
come_back g c =
    let V = g.C.Connections.view in
    let old = V c.args.pass.now in
    let configs = configurations c.args.shared.now.configs.now in
    let passes = c.in_ok-passes.passes.items in
    let left = c.pop.new.self.items in
    let begun = c.lanes_with-lanes.result.items in
    let ended = c.side_by_side-own.result.1.items in
    let control = c.unwrap-own.result in
    let controlled = c.side_by_side-own.result.0.0 in
    let others = c.push_reserved.new.self.items in
    let count : length ended ≡ length begun = search rules in
    let worked = zip_places (HasWorked V configs) begun ended count (λ i d low. c.side_by_side-own.ensures.worked i d (search rules)) in
    let is : IsCrew V configs old passes left c.args.crew.items begun ended control controlled =
    record {
      popped = search rules;
      given = c.in_ok-passes.ensures.spreads.each;
      legal = All-weaker (IsOut flow_law (g.C.Connections.fits c.args.shared.now.conns.now) V)
          (λ pass. IsPass flow_law (V pass)) (λ pass o. o.legal) passes c.in_ok-passes.ensures.given;
      from = c.lanes_with-lanes.ensures.passes;
      worked = worked;
      rested = c.side_by_side-own.ensures.rested;
    } in
    let same = same_others others c.apart-queues.new.passes.items c.args.room.others.items ended controlled (search rules) c.apart-queues.ensures.passes c.requires.room.others in
    all_back V configs old passes left c.args.crew.items begun ended control controlled is others same

pub take_in-requires-clause-unjoined : goal.take_in-requires-clause-unjoined
take_in-requires-clause-unjoined g c lifetimes outlives =
    let V = g.C.Connections.view in
    All-weaker (λ pass. ComesBack (V pass)) (λ pass. (V pass).joined ≡ []) (λ pass b. b.unjoined) c.push_reserved.new.self.items
    (come_back g (goal.at.take_in-requires-clause-unjoined g c).After-push_reserved)

pub returns-in_err-published-clause-later : goal.returns-in_err-published-clause-later
returns-in_err-published-clause-later g c =
    let V = g.C.Connections.view in
    let old = V c.args.pass.now in
    let configs = configurations c.args.shared.now.configs.now in
    let passes = c.in_ok-passes.passes.items in
    let left = c.pop.new.self.items in
    let begun = c.lanes_with-lanes.result.items in
    let ended = c.side_by_side-own.result.1.items in
    let control = c.unwrap-own.result in
    let controlled = c.side_by_side-own.result.0.0 in
    let others = c.push_reserved.new.self.items in
    let count : length ended ≡ length begun = search rules in
    let worked = zip_places (HasWorked V configs) begun ended count (λ i d low. c.side_by_side-own.ensures.worked i d (search rules)) in
    let is : IsCrew V configs old passes left c.args.crew.items begun ended control controlled =
    record {
      popped = search rules;
      given = c.in_ok-passes.ensures.spreads.each;
      legal = All-weaker (IsOut flow_law (g.C.Connections.fits c.args.shared.now.conns.now) V)
          (λ pass. IsPass flow_law (V pass)) (λ pass o. o.legal) passes c.in_ok-passes.ensures.given;
      from = c.lanes_with-lanes.ensures.passes;
      worked = worked;
      rested = c.side_by_side-own.ensures.rested;
    } in
    let same = same_others others c.apart-queues.new.passes.items c.args.room.others.items ended controlled (search rules) c.apart-queues.ensures.passes c.requires.room.others in
    let counted : length others ≡ length passes =
    ap length same ∙ (length-append (map pass_of_lane ended) (controlled ∷ []) ∙ (ap (λ n. n + 1) (length-map ended pass_of_lane) ∙ (ap (λ n. n + 1) count ∙ search rules))) in
    let whole = crew_whole V configs old passes left c.args.crew.items begun ended control controlled is (V c.split_off.new.pass) (V c.take_in.new.pass) others
    c.in_ok-passes.ensures.spreads c.take_in.ensures.gathers same counted c.requires.places c.take_in.ensures.out.legal in
    let collects : Collects (V c.take_in.new.pass) (V c.collect.new.pass) = record { frees = c.collect.ensures.adds; clean = c.collect.ensures.clean; view = c.collect.ensures.view } in
    is_back old (V c.take_in.new.pass) (V c.collect.new.pass) (map (λ (lane : Lane _). V lane.pass) ended ++ V controlled ∷ []) whole collects

pub returns-in_err-published-clause-clean : goal.returns-in_err-published-clause-clean
returns-in_err-published-clause-clean g c =
    let all = returns-in_err-published-clause-later g c in
    inr (c.collect.ensures.clean (all.places ∙ c.requires.places))

pub returns : goal.returns
returns g c =
    let V = g.C.Connections.view in
    let old = V c.args.pass.now in
    let configs = configurations c.args.shared.now.configs.now in
    let passes = c.in_ok-passes.passes.items in
    let left = c.pop.new.self.items in
    let begun = c.lanes_with-lanes.result.items in
    let ended = c.side_by_side-own.result.1.items in
    let control = c.unwrap-own.result in
    let controlled = c.side_by_side-own.result.0.0 in
    let others = c.push_reserved.new.self.items in
    let count : length ended ≡ length begun = search rules in
    let worked = zip_places (HasWorked V configs) begun ended count (λ i d low. c.side_by_side-own.ensures.worked i d (search rules)) in
    let is : IsCrew V configs old passes left c.args.crew.items begun ended control controlled =
    record {
      popped = search rules;
      given = c.in_ok-passes.ensures.spreads.each;
      legal = All-weaker (IsOut flow_law (g.C.Connections.fits c.args.shared.now.conns.now) V)
          (λ pass. IsPass flow_law (V pass)) (λ pass o. o.legal) passes c.in_ok-passes.ensures.given;
      from = c.lanes_with-lanes.ensures.passes;
      worked = worked;
      rested = c.side_by_side-own.ensures.rested;
    } in
    let same = same_others others c.apart-queues.new.passes.items c.args.room.others.items ended controlled (search rules) c.apart-queues.ensures.passes c.requires.room.others in
    let counted : length others ≡ length passes =
    ap length same ∙ (length-append (map pass_of_lane ended) (controlled ∷ []) ∙ (ap (λ n. n + 1) (length-map ended pass_of_lane) ∙ (ap (λ n. n + 1) count ∙ search rules))) in
    let whole = crew_whole V configs old passes left c.args.crew.items begun ended control controlled is (V c.split_off.new.pass) (V c.take_in.new.pass) others
    c.in_ok-passes.ensures.spreads c.take_in.ensures.gathers same counted c.requires.places c.take_in.ensures.out.legal in
    let collects : Collects (V c.take_in.new.pass) (V c.collect.new.pass) = record { frees = c.collect.ensures.adds; clean = c.collect.ensures.clean; view = c.collect.ensures.view } in
    let later = is_back old (V c.take_in.new.pass) (V c.collect.new.pass) (map (λ (lane : Lane _). V lane.pass) ended ++ V controlled ∷ []) whole collects in
    record {
      out = c.collect.ensures.out;
      later = later;
      clean = inr (c.collect.ensures.clean (later.places ∙ c.requires.places));
      runs = (
        map done_of_lane ended,
        are_queues_of V configs begun ended c.apart-queues.result is.worked c.apart-queues.ensures.outcomes c.apart-queues.ensures.packets,
        record {
          begun = begun;
          ended = ended;
          workers = c.lanes_with-lanes.ensures.workers;
          done = refl;
          given = begun_given V configs old passes left c.args.crew.items begun ended control controlled is;
          legal = begun_legal V configs old passes left c.args.crew.items begun ended control controlled is;
          worked = is.worked;
          control = V control;
          controlled = V controlled;
          control_given = control_given V configs old passes left c.args.crew.items begun ended control controlled is;
          rested = c.side_by_side-own.ensures.rested;
          runs = search rules;
          whole = V c.take_in.new.pass;
          is_whole = whole;
          collects = collects;
        },
      );
    }
