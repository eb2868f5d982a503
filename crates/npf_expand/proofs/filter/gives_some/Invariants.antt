use Rattle.std.{proofs.Common.{◌≡◌, drop}, specs.List.list_any}
use Rattle.npf_expand_values.specs.{Scope.env_of_scope}
use Rattle.npf_expand.specs.Rule.{gives_atom}
use Rattle.npf_expand.proofs.filter.gives_some.Given as goal

abbrev pub invariant-loop-one : goal.invariant-loop-one
invariant-loop-one l = record {
  left : list_any (gives_atom (env_of_scope l.scope)) l.fn.protocols ≡ list_any (gives_atom (env_of_scope l.scope)) (drop l.one-index l.fn.protocols);
}
