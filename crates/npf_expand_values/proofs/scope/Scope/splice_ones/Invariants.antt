use Rattle.std.{proofs.Common.take, specs.List.flat_map}
use Rattle.npf_expand_values.specs.{Kept.AreSpliced, Protocol.one_binding, Scope.{env_of_scope, ifaces_of_scope, known_of_scope}, Use.atoms_of}
use Rattle.npf_expand_values.proofs.scope.Scope.splice_ones.Given as goal

abbrev pub invariant-loop-one : goal.invariant-loop-one
invariant-loop-one l = record {
  so_far : AreSpliced (ifaces_of_scope l.self) (known_of_scope l.self) l.all (flat_map (λ one. atoms_of (one_binding (env_of_scope l.self) one)) (take l.one-index l.ones));
}
