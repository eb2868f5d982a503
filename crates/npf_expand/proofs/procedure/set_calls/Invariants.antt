use Rattle.std.proofs.Common.{◌≡◌, drop}
use Rattle.npf_expand.specs.Procedure.{with_calls}
use Rattle.npf_expand.proofs.procedure.set_calls.Given as goal

abbrev pub invariant-loop-call : goal.invariant-loop-call
invariant-loop-call l = record {
  left : with_calls l.fn.procedure l.fn.calls ≡ with_calls l.procedure (drop l.call-index l.fn.calls);
}
