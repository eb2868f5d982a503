use Rattle.std.proofs.Common.{◌≡◌, map, take}
use Rattle.npf_why.specs.{Candidate.candidate_kind, Stand.ThoseThatStand}
use Rattle.npf_why.proofs.stand.those_that_stand.Given as goal

abbrev pub invariant-candidates : goal.invariant-candidates
invariant-candidates l = record {
  same : l.tokens.items ≡ l.initial.tokens.items;
  so_far : ThoseThatStand l.initial.tokens.items (map candidate_kind (take l.candidate-index l.fn.candidates)) (map candidate_kind l.told.items);
}
