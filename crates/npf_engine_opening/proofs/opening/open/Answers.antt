use Rattle.std.proofs.Common.{[], ◌∷◌}
use Rattle.npf_connections.proofs.SaidLemmas.{did_so}
use Rattle.npf_engine_opening.{specs.{Opening.OpensConnection, Saying.claim_said}, proofs.{RoomLemmas.builds_with_room, SayingLemmas.did_first}}
use Rattle.npf_engine_opening.proofs.opening.open.Goals as goal

pub returns-in_default-clause-opens : goal.returns-in_default-clause-opens
returns-in_default-clause-opens g c = record {
  said = [];
  described = OpensConnection.full;
  did = did_so _ _ _ c.begin.ensures.view c.in_default.ensures.adds.adds;
}

pub returns-clause-opens : goal.returns-clause-opens
returns-clause-opens g c =
    did_first _ _ _ (claim_said c.args.attempt.now.packet c.in-Some.id ∷ [])
    (did_so _ _ _ c.begin.ensures.view c.in-Some.ensures.adds.adds)
    c.build.ensures.does
    (λ said builds. OpensConnection.begun c.in-Some.id said c.build.result builds)

pub returns-clause-full : goal.returns-clause-full
returns-clause-full g c = λ full. absurd (builds_with_room c.build.ensures.does.described full)
