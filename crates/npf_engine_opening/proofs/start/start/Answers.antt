use Rattle.std.proofs.Common.{[], ◌∷◌}
use Rattle.npf_engine_opening.specs.{Saying.{start_said, abandon_said}, Start.{StartsConnection, flow_of}, Ways.ways_before}
use Rattle.npf_engine_opening.proofs.SayingLemmas.{did_end, did_start_of, did_second}
use Rattle.npf_engine_opening.proofs.start.start.Goals as goal

pub returns-in-Done-clause-starts : goal.returns-in-Done-clause-starts
returns-in-Done-clause-starts g c =
    did_second _ _ _ (start_said c.args.id c.args.attempt.now.packet (flow_of c.args.attempt.now c.args.changes) ∷ []) c.in-Done.ensures.holds
    (did_start_of _ _ c.args.id c.start.ensures.view c.args.attempt.now.packet c.flow_of.result (flow_of c.args.attempt.now c.args.changes) c.flow_of.ensures c.start.ensures.adds)
    (λ said holds. StartsConnection.started said holds)

pub returns-in-NoNode-clause-starts : goal.returns-in-NoNode-clause-starts
returns-in-NoNode-clause-starts g c =
    did_second _ _ _ (abandon_said c.args.id (ways_before c.args.attempt.now.plan)) c.in-NoNode.ensures.holds
    (did_end _ _ c.args.id (ways_before c.args.attempt.now.plan) (c.in-NoNode.ensures.ways (λ e. absurd cc)) c.abandon.ensures.adds c.abandon.ensures.view)
    (λ said holds. StartsConnection.no_node said holds)

pub returns-in-Taken-clause-starts : goal.returns-in-Taken-clause-starts
returns-in-Taken-clause-starts g c =
    did_second _ _ _ (abandon_said c.args.id (ways_before c.args.attempt.now.plan)) c.in-Taken.ensures.holds
    (did_end _ _ c.args.id (ways_before c.args.attempt.now.plan) (c.in-Taken.ensures.ways (λ e. absurd cc)) c.abandon-in-Taken.ensures.adds c.abandon-in-Taken.ensures.view)
    (λ said holds. StartsConnection.taken said c.in-Taken.holder holds)
