use Rattle.std.proofs.{Common.{List, sym, ap, subst, All}, lemmas.List.Elements.All-nil}
use Rattle.std.specs.{List.flat_map, Option.option_map, Prelude.length}
use Rattle.npf_expand_values.specs.declared.{leader.Leader.Leader, variable.Part.Part}
use Rattle.npf_expand_values.specs.{Atom.kept_atom, Kept.{IsOfFirst, part_atoms}}
use Rattle.npf_expand_values.proofs.variable.Spliced.new.Goals as goal

pub returns : goal.returns
returns c = λ ifaces bindings. record {
  means = ap (flat_map (part_atoms bindings)) c.in_ok-with_capacity.ensures.items;
  older = subst (λ (parts : List Part). All (IsOfFirst (length bindings)) parts) (sym c.in_ok-with_capacity.ensures.items) (All-nil (IsOfFirst (length bindings)));
  kept = record {
    first = ap (λ (leader : Leader). option_map kept_atom leader.first) c.none.ensures;
    alike = ap (λ (leader : Leader). leader.alike) c.none.ensures;
    summed = c.none-2.ensures;
  };
}
