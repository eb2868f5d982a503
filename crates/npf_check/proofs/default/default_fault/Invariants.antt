use Rattle.std.{proofs.Common.{◌≡◌, drop}, specs.List.flat_map}
use Rattle.npf_check.{specs.Default.{default_faults, default_place}, proofs.DefaultLemmas.left_default}
use Rattle.npf_check.proofs.default.default_fault.Given as goal

abbrev pub invariant-loop-stmt : goal.invariant-loop-stmt
invariant-loop-stmt l = default_faults l.fn.tree ≡ left_default l.met l.fn.tree.end (flat_map default_place (drop l.stmt-index l.fn.tree.stmts))
