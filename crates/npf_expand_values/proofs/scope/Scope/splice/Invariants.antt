use Rattle.std.proofs.Common.{take}
use Rattle.npf_expand_values.specs.{Kept.AreSpliced, Scope.{env_of_scope, ifaces_of_scope, known_of_scope}, Variable.spliced}
use Rattle.npf_expand_values.proofs.scope.Scope.splice.Given as goal

abbrev pub invariant-loop-value : goal.invariant-loop-value
invariant-loop-value l = record {
  so_far : AreSpliced (ifaces_of_scope l.self) (known_of_scope l.self) l.all (spliced (ifaces_of_scope l.self) (env_of_scope l.self) (take l.value-index l.values));
}
