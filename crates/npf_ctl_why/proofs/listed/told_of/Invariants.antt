use Rattle.std.proofs.Common.{◌≡◌, filter, map, take}
use Rattle.npf_why.specs.{Candidate.candidate_kind, Halt.is_told}
use Rattle.npf_ctl_why.proofs.listed.told_of.Given as goal

abbrev pub invariant-loop-candidate : goal.invariant-loop-candidate
invariant-loop-candidate l = record {
  so_far : map candidate_kind l.told.items ≡ filter (λ kind. is_told kind (map candidate_kind l.fn.standing)) (map candidate_kind (take l.candidate-index l.fn.standing));
}
