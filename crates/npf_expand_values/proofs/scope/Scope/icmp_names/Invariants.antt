use Rattle.std.{proofs.Common.{◌≡◌, ◌&&◌, List, drop}, specs.List.{flat_map, list_all}}
use Rattle.npf_syntax.specs.declared.value.One.{One}
use Rattle.npf_expand_values.specs.{Atom.{Atom, Env}, Protocol.{is_protocol, one_binding}, Scope.env_of_scope, Use.atoms_of}
use Rattle.npf_expand_values.proofs.scope.Scope.icmp_names.Given as goal

abbrev pub atoms : Env → List One → List Atom
atoms env ones = flat_map (λ one. atoms_of (one_binding env one)) ones

abbrev pub invariant-loop-one : goal.invariant-loop-one
invariant-loop-one l =
    let env : Env = env_of_scope l.self in record {
      icmp : list_all (is_protocol 1) (atoms env l.fn.protocols) ≡ (l.icmp && list_all (is_protocol 1) (atoms env (drop l.one-index l.fn.protocols)));
      icmp6 : list_all (is_protocol 58) (atoms env l.fn.protocols) ≡ (l.icmp6 && list_all (is_protocol 58) (atoms env (drop l.one-index l.fn.protocols)));
    }
