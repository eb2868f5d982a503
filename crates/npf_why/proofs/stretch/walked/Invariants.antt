use Rattle.std.proofs.Common.{◌≡◌, drop}
use Rattle.npf_why.specs.Stretch.{at_front, walked}
use Rattle.npf_why.proofs.stretch.walked.Given as goal

abbrev pub invariant-loop-token : goal.invariant-loop-token
invariant-loop-token l = record {
  left : walked at_front l.fn.tokens ≡ walked l.walk (drop l.token-index l.fn.tokens);
}
