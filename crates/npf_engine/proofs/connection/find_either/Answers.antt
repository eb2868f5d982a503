use Rattle.std.proofs.Common.{◌++◌}
use Rattle.npf_connections.proofs.SaidLemmas.{did_more}
use Rattle.npf_engine.specs.Connection.{FindsEither}
use Rattle.npf_engine.proofs.connection.find_either.Goals as goal

pub returns-in-Some-clause-does : goal.returns-in-Some-clause-does
returns-in-Some-clause-does g c = record {
  said = c.in-Some.ensures.does.said;
  described = FindsEither.by_own c.in-Some.ensures.does.described;
  did = c.in-Some.ensures.does.did;
}

pub returns-clause-does : goal.returns-clause-does
returns-clause-does g c = record {
  said = c.in_default.ensures.does.said ++ c.find-2.ensures.does.said;
  described = FindsEither.by_every c.in_default.ensures.does.described c.find-2.ensures.does.described;
  did = did_more _ _ _ _ _ c.in_default.ensures.does.did c.find-2.ensures.does.did;
}
