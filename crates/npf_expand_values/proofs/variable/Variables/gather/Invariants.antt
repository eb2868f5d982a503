use Rattle.std.proofs.Common.{◌≡◌, ◌++◌, All, length, map, reverse}
use Rattle.npf_expand_values.{specs.{Atom.kept_atom, Kept.{IsOfFirst, parts_atoms}, Scope.known}, proofs.PartSize.parts_size}
use Rattle.npf_expand_values.proofs.variable.Variables.gather.Given as goal

abbrev pub invariant-loop-part : goal.invariant-loop-part
invariant-loop-part l = record {
  older : All (IsOfFirst (length (known l.self))) l.stack.items;
  left : parts_atoms (known l.self) l.fn.parts ≡ parts_atoms (known l.self) l.stack.items ++ reverse (map kept_atom l.atoms.items);
}

abbrev pub decreases-loop-part : goal.decreases-loop-part
decreases-loop-part l = parts_size l.self.defs.items l.stack.items
