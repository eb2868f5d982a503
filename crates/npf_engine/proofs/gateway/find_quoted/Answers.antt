use Rattle.std.proofs.Common.{Bool, sym, subst}
use Rattle.npf_connections.specs.Said.{Does}
use Rattle.npf_engine.{specs.{Answer.arrival_of, Gateway.AsksQuoted}, proofs.GatewayLemmas.asked_nothing}
use Rattle.npf_engine.proofs.gateway.find_quoted.Goals as goal

pub returns-then-not-model-clause-does : goal.returns-then-not-model-clause-does
returns-then-not-model-clause-does g c = asked_nothing _ (AsksQuoted.off c.if-not-model.true)

pub returns-clause-does : goal.returns-clause-does
returns-clause-does g c =
    subst (λ (gateway : Bool). Does (g.C.Connections.view c.args.pass.now) (g.C.Connections.view c.find_inner.new.pass)
    (λ said. AsksQuoted gateway (arrival_of c.args.crossing.now) c.args.crossing.now.facts.now said c.find_inner.result))
    (sym c.if-not-model.false) c.find_inner.ensures.does
