use Rattle.std.{proofs.Common.{◌≡◌, take}, specs.List.flat_map}
use Rattle.npf_expand_values.specs.{Address.items_of, Atom.kept_atom, Source.declared_by}
use Rattle.npf_expand_values.proofs.address.items_of_each.Given as goal

abbrev pub invariant-loop-atom : goal.invariant-loop-atom
invariant-loop-atom l = record {
  so_far : l.items.items ≡ flat_map (λ atom. items_of l.fn.interfaces.list.now (declared_by l.fn.declarations.source).tables (kept_atom atom)) (take l.atom-index l.fn.atoms);
}
