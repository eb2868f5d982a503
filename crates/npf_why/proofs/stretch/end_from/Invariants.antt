use Rattle.std.proofs.Common.{◌≡◌, drop}
use Rattle.npf_why.specs.Stretch.{end_from}
use Rattle.npf_why.proofs.stretch.end_from.Given as goal

abbrev pub invariant-loop-token : goal.invariant-loop-token
invariant-loop-token l = record {
  left : end_from l.fn.len l.fn.walk l.fn.tokens ≡ end_from l.fn.len l.walk (drop l.token-index l.fn.tokens);
}
