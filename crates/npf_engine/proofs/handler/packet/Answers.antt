use Rattle.std.proofs.Common.{None, [], refl, sym, ◌∙◌}
use Rattle.npf_connections.proofs.SaidLemmas.{did_nothing}
use Rattle.npf_engine.{specs.Explains.Explains, proofs.{HandlerLemmas.handled, SightLemmas.turns}}
use Rattle.npf_engine.proofs.handler.packet.Goals as goal

pub returns-in-Skip-clause-handles : goal.returns-in-Skip-clause-handles
returns-in-Skip-clause-handles g c = record {
  asked = None;
  said = [];
  asks = (refl, refl);
  did = did_nothing (g.C.Connections.view c.args.pass.now);
  explains = Explains.skip refl (rw c.in-Skip.is at c.decode.ensures);
}

pub returns-in-Malformed-clause-handles : goal.returns-in-Malformed-clause-handles
returns-in-Malformed-clause-handles g c = record {
  asked = None;
  said = [];
  asks = (refl, refl);
  did = did_nothing (g.C.Connections.view c.args.pass.now);
  explains = Explains.malformed refl (rw c.in-Malformed.is at c.decode.ensures);
}

pub returns-clause-handles : goal.returns-clause-handles
returns-clause-handles g c =
    handled _ _ _ _ _ _ _ _ _ c.rewrite.new.bytes (turns _ _ c.enter.ensures.view c.enter.ensures.adds) c.answer-answer.ensures.answers
    (turns _ _ c.leave.ensures.view c.leave.ensures.adds) (c.leave.ensures.out.out ∙ sym c.requires.out.out)
    c.answer-answer.ensures.passes c.rewrite.ensures.sent
