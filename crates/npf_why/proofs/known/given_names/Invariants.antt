use Rattle.std.{proofs.Common.{◌≡◌, map, take}, specs.List.flat_map}
use Rattle.npf_why.specs.Known.{given_by}
use Rattle.npf_why.proofs.known.given_names.Given as goal

abbrev pub invariant-stmts : goal.invariant-stmts
invariant-stmts l = record {
  so_far : map (λ name. name.now) l.names.items ≡ flat_map (given_by l.fn.which) (take l.stmt-index l.fn.tree.stmts);
}
