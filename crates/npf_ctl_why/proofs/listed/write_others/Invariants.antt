use Rattle.std.{proofs.Common.{◌≡◌, ◌++◌, map, take}, specs.List.flat_map}
use Rattle.npf_why.specs.Candidate.{candidate_kind}
use Rattle.npf_ctl_why.specs.Listed.{behind_comma, candidate_text}
use Rattle.npf_ctl_why.proofs.listed.write_others.Given as goal

abbrev pub invariant-loop-candidate : goal.invariant-loop-candidate
invariant-loop-candidate l = record {
  so_far : l.into.items ≡ l.initial.into.items ++ flat_map behind_comma (map candidate_text (map candidate_kind (take l.candidate-index l.fn.others)));
}
