use Rattle.std.proofs.Common.{◌≡◌, None, drop, map}
use Rattle.npf_why.specs.{Candidate.candidate_kind, Halt.greatest_from}
use Rattle.npf_why.proofs.halt.greatest.Given as goal

abbrev pub invariant-standing : goal.invariant-standing
invariant-standing l = record {
  so_far : greatest_from None (map candidate_kind l.fn.standing) ≡ greatest_from l.found (map candidate_kind (drop l.candidate-index l.fn.standing));
}
