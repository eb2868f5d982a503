use Rattle.std.proofs.Common.{◌≡◌}
use Rattle.npf_expand_values.specs.{Scope.ifaces_in, Source.declared_by}
use Rattle.npf_expand.proofs.ReadLemmas.{StmtsLeft}
use Rattle.npf_expand.proofs.elaborate.read_stmts.Given as goal

abbrev pub invariant-loop-stmt : goal.invariant-loop-stmt
invariant-loop-stmt l = record {
  run : ifaces_in l.state.variables ≡ l.fn.interfaces.list.now;
  left : StmtsLeft l.fn.interfaces.list.now (declared_by l.fn.declarations.source) l.state l.fn.stmts l.stmt-index;
}
