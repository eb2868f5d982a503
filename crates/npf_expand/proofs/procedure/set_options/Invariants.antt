use Rattle.std.proofs.Common.{◌≡◌, drop}
use Rattle.npf_expand.specs.Procedure.{with_options}
use Rattle.npf_expand.proofs.procedure.set_options.Given as goal

abbrev pub invariant-loop-option : goal.invariant-loop-option
invariant-loop-option l = record {
  left : with_options l.fn.procedure l.fn.options ≡ with_options l.procedure (drop l.option-index l.fn.options);
}
