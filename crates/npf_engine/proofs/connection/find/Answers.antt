use Rattle.std.proofs.Common.{rules, Some, None}
use Rattle.npf_connections.proofs.SaidLemmas.{did_so}
use Rattle.npf_engine.{specs.Connection.FindsByKey, proofs.ConnectionLemmas.{looked, stepped}}
use Rattle.npf_engine.proofs.connection.find.Goals as goal

pub returns-in_default-clause-does : goal.returns-in_default-clause-does
returns-in_default-clause-does g c =
    looked c.args.n c.args.arg.now c.args.key _ _ None FindsByKey.free
    (did_so _ _ _ c.look.ensures.view c.in_default.ensures.adds.adds)

pub returns-then-eq-clause-does : goal.returns-then-eq-clause-does
returns-then-eq-clause-does g c =
    looked c.args.n c.args.arg.now c.args.key _ _ (Some c.in-Some.found) (FindsByKey.port (search rules))
    (did_so _ _ _ c.look.ensures.view c.in-Some.ensures.adds.adds)

pub returns-in-Done-clause-does : goal.returns-in-Done-clause-does
returns-in-Done-clause-does g c =
    stepped c.args.n c.args.arg.now c.args.key _ _ _ c.in-Some.found _ (FindsByKey.live (search rules))
    (did_so _ _ _ c.look.ensures.view c.in-Some.ensures.adds.adds)
    (did_so _ _ _ c.step.ensures.view c.in-Done.ensures.adds.adds)

pub returns-in-NotLive-clause-does : goal.returns-in-NotLive-clause-does
returns-in-NotLive-clause-does g c =
    stepped c.args.n c.args.arg.now c.args.key _ _ _ c.in-Some.found _ (FindsByKey.dead (search rules))
    (did_so _ _ _ c.look.ensures.view c.in-Some.ensures.adds.adds)
    (did_so _ _ _ c.step.ensures.view c.in-NotLive.ensures.adds.adds)
