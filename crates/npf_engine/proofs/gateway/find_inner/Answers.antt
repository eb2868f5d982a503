use Rattle.std.proofs.Common.{true, refl, sym, ◌∙◌}
use Rattle.npf_engine.{specs.Gateway.AsksQuoted, proofs.GatewayLemmas.{asked_nothing, asked_quoted, quotes_none}}
use Rattle.npf_engine.proofs.gateway.find_inner.Goals as goal

pub returns-in_default-clause-does : goal.returns-in_default-clause-does
returns-in_default-clause-does g c =
    asked_nothing _ (AsksQuoted.no_error (quotes_none c.args.crossing.now.bytes.now c.args.crossing.now.facts.now (sym c.inner_of.ensures.quoted ∙ c.in_default.is)))

pub returns-clause-does : goal.returns-clause-does
returns-clause-does g c =
    asked_quoted c.args.crossing.now true c.in-Some.inner c.peek_of-peek.result _ _ refl
    (sym c.inner_of.ensures.quoted ∙ c.in-Some.is) c.peek_of-peek.ensures c.inner_key.ensures c.inner_key-2.ensures _ _ _ c.find_either.ensures.does
