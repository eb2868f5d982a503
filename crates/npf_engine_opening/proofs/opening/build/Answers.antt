use Rattle.std.proofs.Common.{[], ◌∷◌, ◌++◌, refl}
use Rattle.npf_types.specs.declared.key.Way.{Way}
use Rattle.npf_core.specs.{History.state_of, declared.held.Held.Held}
use Rattle.npf_connections.proofs.SaidLemmas.{did_more, did_so}
use Rattle.npf_flow.specs.Flows.{flow_law}
use Rattle.npf_engine_opening.specs.{Opening.Builds, Saying.{hold_said, step_said, abandon_said}, Start.packet_key, Ways.is_one_of}
use Rattle.npf_engine_opening.proofs.{SayingLemmas.{did_hold_of, did_end, did_first}, WayLemmas.none_of}
use Rattle.npf_engine_opening.proofs.opening.build.Goals as goal

pub hold-requires-clause-none : goal.hold-requires-clause-none
hold-requires-clause-none g c =
    none_of (state_of flow_law (g.C.Connections.view c.args.pass.now).history) c.args.id (is_one_of []) Way.Forward c.requires.ways refl

pub translate-requires-clause-ways : goal.translate-requires-clause-ways
translate-requires-clause-ways g c κs within = c.in-Done.ensures.ways (is_one_of []) c.requires.ways

pub returns-in-Done-clause-does : goal.returns-in-Done-clause-does
returns-in-Done-clause-does g c =
    did_first _ _ _ (hold_said c.args.id (packet_key c.args.attempt.now) Way.Forward Held.Done ∷ [])
    (did_hold_of _ _ c.args.id c.hold.ensures.view c.hold.ensures.sweeps c.key_of-forward.result (packet_key c.args.attempt.now) Way.Forward Held.Done c.key_of-forward.ensures c.in-Done.ensures.adds)
    c.translate.ensures.translates
    (λ said translates. Builds.held said c.translate.result translates)

pub returns-in-NoNode-clause-does : goal.returns-in-NoNode-clause-does
returns-in-NoNode-clause-does g c = record {
  said = abandon_said c.args.id [];
  described = Builds.no_node;
  did = did_more _ _ _ [] (abandon_said c.args.id [])
      (did_hold_of _ _ c.args.id c.hold.ensures.view c.hold.ensures.sweeps c.key_of-forward.result
      (packet_key c.args.attempt.now) Way.Forward Held.NoNode c.key_of-forward.ensures c.in-NoNode.ensures.adds)
      (did_end _ _ c.args.id [] (c.in-NoNode.ensures.ways (is_one_of []) c.requires.ways) c.abandon.ensures.adds c.abandon.ensures.view);
}

pub returns-in-Taken-clause-does : goal.returns-in-Taken-clause-does
returns-in-Taken-clause-does g c =
    let taken = hold_said c.args.id (packet_key c.args.attempt.now) Way.Forward (Held.Taken c.in-Taken.holder) ∷ [] in
    let stepped = step_said c.args.attempt.now.packet c.in-Taken.holder c.args.attempt.now.arg c.step-answer.result ∷ [] in
    record {
      said = taken ++ (abandon_said c.args.id [] ++ stepped);
      described = Builds.known c.in-Taken.holder c.step-answer.result;
      did = did_more _ _ _ taken (abandon_said c.args.id [] ++ stepped)
          (did_hold_of _ _ c.args.id c.hold.ensures.view c.hold.ensures.sweeps c.key_of-forward.result (packet_key c.args.attempt.now) Way.Forward (Held.Taken c.in-Taken.holder)
          c.key_of-forward.ensures c.in-Taken.ensures.adds)
          (did_more _ _ _ (abandon_said c.args.id []) stepped
          (did_end _ _ c.args.id [] (c.in-Taken.ensures.ways (is_one_of []) c.requires.ways) c.abandon-in-Taken.ensures.adds c.abandon-in-Taken.ensures.view)
          (did_so _ _ _ c.step-answer.ensures.view c.step-answer.ensures.adds.adds));
    }
