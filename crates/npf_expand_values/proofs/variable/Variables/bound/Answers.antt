use Rattle.std.proofs.{Common.{Some, refl, sym, ap, ◌∙◌, subst}, lemmas.Option.slice_get_read}
use Rattle.npf_expand_values.specs.declared.variable.Bound.{Bound}
use Rattle.npf_expand_values.{specs.{Kept.IsBoundWhere, Scope.known_in, Use.atoms_of}, proofs.KeptLemmas.known_at}
use Rattle.npf_expand_values.proofs.variable.Variables.bound.Goals as goal

pub returns : goal.returns
returns c =
    let variables = c.args.self.now in
    let def = c.index-def.result.now in
    let is = known_at variables c.args.place def (slice_get_read variables.defs.items _ c.args.place def refl c.requires c.index-def.ensures) in
    let bound : Bound = record { many = def.many; leader = c.kept.result.0; part = c.part.result; summary = c.kept.result.1 } in
    subst (IsBoundWhere (known_in variables) (Some bound)) (sym is.binding) (record {
      many = refl;
      means = c.part.ensures.means ∙ ap atoms_of is.binding;
      older = c.part.ensures.older;
      kept = c.kept.ensures _ is.behind.kept;
      alone = is.behind.alone;
    })
