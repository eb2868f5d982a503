use Rattle.std.{proofs.Common.{◌≡◌, drop, slice_get}, specs.List.flat_map}
use Rattle.npf_check.specs.Limit.{limited_places}
use Rattle.npf_check.proofs.limit.past.Given as goal

abbrev pub invariant-loop-stmt : goal.invariant-loop-stmt
invariant-loop-stmt l = slice_get (flat_map (limited_places l.quantity) l.stmts) l.most ≡ slice_get (flat_map (limited_places l.quantity) (drop l.stmt-index l.stmts)) l.left
