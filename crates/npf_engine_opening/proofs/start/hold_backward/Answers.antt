use Rattle.std.proofs.Common.{sym, []}
use Rattle.npf_types.specs.declared.key.Way.{Way}
use Rattle.npf_core.specs.History.{state_of}
use Rattle.npf_connections.proofs.SaidLemmas.{did_nothing}
use Rattle.npf_flow.specs.Flows.{flow_law}
use Rattle.npf_engine_opening.{specs.{Saying.said_by_hold, Start.{HoldsBackward, answer_key}, Ways.{is_one_of, ways_before}}, proofs.SayingLemmas.did_hold_of}
use Rattle.npf_engine_opening.proofs.{StartingLemmas.{is_one, are_two}, WayLemmas.{none_of, not_backward, refused_holds}}
use Rattle.npf_engine_opening.proofs.start.hold_backward.Goals as goal

pub hold-requires-clause-none : goal.hold-requires-clause-none
hold-requires-clause-none g c =
    none_of (state_of flow_law (g.C.Connections.view c.args.pass.now).history) c.args.id (is_one_of (ways_before c.args.attempt.now.plan)) Way.Backward c.requires.ways
    (not_backward c.args.attempt.now.plan)

pub returns-then-eq-clause-holds : goal.returns-then-eq-clause-holds
returns-then-eq-clause-holds g c = record {
  said = [];
  described = HoldsBackward.one_key (is_one c.args.attempt.now c.args.there.now _ _ c.keys_of.ensures.forward c.keys_of.ensures.backward (sym c.if-eq.ensures));
  did = did_nothing _;
}

pub returns-clause-ways : goal.returns-clause-ways
returns-clause-ways g c =
    refused_holds (state_of flow_law (g.C.Connections.view c.args.pass.now).history) (state_of flow_law (g.C.Connections.view c.hold.new.pass).history) c.args.id Way.Backward
    c.hold.result (is_one_of (ways_before c.args.attempt.now.plan)) c.hold.ensures.ways c.requires.ways

pub returns-clause-holds : goal.returns-clause-holds
returns-clause-holds g c = record {
  said = said_by_hold c.args.id (answer_key c.args.attempt.now c.args.there.now) Way.Backward c.hold.result;
  described = HoldsBackward.two_keys c.hold.result
      (are_two c.args.attempt.now c.args.there.now _ _ c.keys_of.ensures.forward c.keys_of.ensures.backward (sym c.if-eq.ensures));
  did = did_hold_of _ _ c.args.id c.hold.ensures.view c.hold.ensures.sweeps c.keys_of.result.1 (answer_key c.args.attempt.now c.args.there.now) Way.Backward c.hold.result
      c.keys_of.ensures.backward c.hold.ensures.adds;
}
