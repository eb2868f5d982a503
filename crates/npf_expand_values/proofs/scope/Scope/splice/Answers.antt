use Rattle.std.proofs.Common.{subst, sym}
use Rattle.npf_expand_values.specs.{Kept.AreSpliced, Scope.{env_of_scope, ifaces_of_scope, known_of_scope}, Use.atoms_of, Variable.binding_of}
use Rattle.npf_expand_values.proofs.KeptLemmas.{flat_map-more}
use Rattle.npf_expand_values.proofs.scope.Scope.splice.Goals as goal

pub loop-value-preserved : goal.loop-value-preserved
loop-value-preserved c =
    let scope = c.args.self.now in
    let binding = binding_of (ifaces_of_scope scope) (env_of_scope scope) in
    record {
      so_far = subst (AreSpliced (ifaces_of_scope scope) (known_of_scope scope) c.add_where.new.self)
          (sym (flat_map-more (λ value. atoms_of (binding value)) c.args.values.now c.loop-value.value-index c.value-item.result _ c.loop-value-test.true c.value-item.is))
          (c.in_ok-add_where.ensures (ifaces_of_scope scope) (known_of_scope scope) _ (binding c.value-item.result) c.loop-value.invariant.so_far c.value_binding.ensures);
    }

pub loop-value-init : goal.loop-value-init
loop-value-init c = record { so_far = c.in_ok-all.ensures (ifaces_of_scope c.args.self.now) (known_of_scope c.args.self.now) }
