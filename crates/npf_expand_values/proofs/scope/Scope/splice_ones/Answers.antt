use Rattle.std.{proofs.{Common.{List, subst, sym}, lemmas.List.take_all}, specs.List.flat_map}
use Rattle.npf_syntax.specs.declared.value.One.{One}
use Rattle.npf_expand_values.specs.{Kept.AreSpliced, Scope.{env_of_scope, ifaces_of_scope, known_of_scope}, Use.atoms_of, Protocol.one_binding}
use Rattle.npf_expand_values.proofs.KeptLemmas.{flat_map-more}
use Rattle.npf_expand_values.proofs.scope.Scope.splice_ones.Goals as goal

pub loop-one-preserved : goal.loop-one-preserved
loop-one-preserved c =
    let scope = c.args.self.now in
    let binding = one_binding (env_of_scope scope) in
    record {
      so_far = subst (AreSpliced (ifaces_of_scope scope) (known_of_scope scope) c.add_where.new.self)
          (sym (flat_map-more (λ one. atoms_of (binding one)) c.args.ones.now c.loop-one.one-index c.one-item.result _ c.loop-one-test.true c.one-item.is))
          (c.in_ok-add_where.ensures (ifaces_of_scope scope) (known_of_scope scope) _ (binding c.one-item.result) c.loop-one.invariant.so_far c.one_binding.ensures);
    }

pub loop-one-init : goal.loop-one-init
loop-one-init c = record { so_far = c.in_ok-all.ensures (ifaces_of_scope c.args.self.now) (known_of_scope c.args.self.now) }

pub returns : goal.returns
returns c =
    let scope = c.args.self.now in
    subst (λ (ones : List One). AreSpliced (ifaces_of_scope scope) (known_of_scope scope) c.loop-one.all (flat_map (λ one. atoms_of (one_binding (env_of_scope scope) one)) ones))
    (take_all c.loop-one.one-index c.args.ones.now c.loop-one-test.false) c.loop-one.invariant.so_far
