use Rattle.std.proofs.Common.{◌≡◌, drop, map}
use Rattle.npf_lexer.specs.declared.token.TokenKind.TheVariants as Kind
use Rattle.npf_why.specs.{Candidate.candidate_kind, Halt.stands}
use Rattle.npf_why.proofs.halt.stands_word.Given as goal

abbrev pub invariant-loop-candidate : goal.invariant-loop-candidate
invariant-loop-candidate l = record {
  left : stands (map candidate_kind l.fn.standing) (Kind.Word l.fn.text) ≡ stands (map candidate_kind (drop l.candidate-index l.fn.standing)) (Kind.Word l.fn.text);
}
