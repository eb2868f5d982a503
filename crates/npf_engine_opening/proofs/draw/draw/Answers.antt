use Rattle.std.proofs.Common.{[], ◌∷◌, ap, ◌∙◌, refl}
use Rattle.npf_types.specs.declared.key.Way.{Way}
use Rattle.npf_core.specs.{History.state_of, declared.held.Held.Held}
use Rattle.npf_connections.proofs.SaidLemmas.{did_nothing}
use Rattle.npf_flow.specs.Flows.{flow_law}
use Rattle.npf_key.specs.Key.{port_key}
use Rattle.npf_engine_opening.{specs.Ways.is_one_of, proofs.{DrawingLemmas.{at_next, another, gives, stops, ends}, SayingLemmas.{View, did_hold_of}}}
use Rattle.npf_engine_opening.proofs.WayLemmas.{none_of}
use Rattle.npf_engine_opening.proofs.draw.draw.Goals as goal

pub loop-port-init : goal.loop-port-init
loop-port-init g c = (
  c.requires.inside,
  c.requires.builds,
  c.requires.ways,
  record { before = []; split = refl; did = did_nothing (g.C.Connections.view c.args.pass.now) },
)

pub hold-requires-clause-none : goal.hold-requires-clause-none
hold-requires-clause-none g c =
    none_of (state_of flow_law (g.C.Connections.view c.loop-port.pass).history) c.args.id (is_one_of (Way.Forward ∷ [])) Way.Port c.loop-port.invariant.2 refl

pub returns-in-Done-clause-ways : goal.returns-in-Done-clause-ways
returns-in-Done-clause-ways g c = c.in-Done.ensures.ways (is_one_of (Way.Forward ∷ [])) c.loop-port.invariant.2

pub returns-in-Done-clause-draws : goal.returns-in-Done-clause-draws
returns-in-Done-clause-draws g c =
    gives _ _ _ c.args.id c.args.addr _ _ c.in-Some.port (at_next _ _ _ _ _ _ _ c.in-Some.port c.in-Some.ensures.port c.in-Some.ensures.left c.loop-port.invariant.3)
    (did_hold_of _ _ c.args.id c.hold.ensures.view c.hold.ensures.sweeps c.port_key.result (port_key c.args.addr c.in-Some.port) Way.Port Held.Done c.port_key.ensures c.in-Done.ensures.adds)

pub loop-port-preserved : goal.loop-port-preserved
loop-port-preserved g c = (
  c.hold.ensures.inside,
  ap (λ (p : View). p.builds) c.hold.ensures.view.view ∙ c.loop-port.invariant.1,
  c.in-Taken.ensures.ways (is_one_of (Way.Forward ∷ [])) c.loop-port.invariant.2,
  another _ _ _ c.args.id c.args.addr _ _ c.in-Some.port (at_next _ _ _ _ _ _ _ c.in-Some.port c.in-Some.ensures.port c.in-Some.ensures.left c.loop-port.invariant.3)
      c.in-Taken.field-0
      (did_hold_of _ _ c.args.id c.hold.ensures.view c.hold.ensures.sweeps c.port_key.result (port_key c.args.addr c.in-Some.port) Way.Port (Held.Taken c.in-Taken.field-0) c.port_key.ensures
      c.in-Taken.ensures.adds),
)

pub returns-in-NoNode-clause-ways : goal.returns-in-NoNode-clause-ways
returns-in-NoNode-clause-ways g c = c.in-NoNode.ensures.ways (is_one_of (Way.Forward ∷ [])) c.loop-port.invariant.2

pub returns-in-NoNode-clause-draws : goal.returns-in-NoNode-clause-draws
returns-in-NoNode-clause-draws g c =
    stops _ _ _ c.args.id c.args.addr _ _ c.in-Some.port (at_next _ _ _ _ _ _ _ c.in-Some.port c.in-Some.ensures.port c.in-Some.ensures.left c.loop-port.invariant.3)
    (did_hold_of _ _ c.args.id c.hold.ensures.view c.hold.ensures.sweeps c.port_key.result (port_key c.args.addr c.in-Some.port) Way.Port Held.NoNode c.port_key.ensures c.in-NoNode.ensures.adds)

pub returns-clause-draws : goal.returns-clause-draws
returns-clause-draws g c = ends _ _ c.args.id c.args.addr _ _ c.in_default.ensures.port c.loop-port.invariant.3
