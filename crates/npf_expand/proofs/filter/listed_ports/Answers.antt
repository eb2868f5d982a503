use Rattle.std.{proofs.Common.{Some, ap, ◌∙◌}, specs.List.filter_map}
use Rattle.npf_expand_values.specs.{Atom.kept_atom, Port.atom_ports, Scope.{env_of_scope, ifaces_of_scope}, Variable.spliced}
use Rattle.npf_expand_values.proofs.KeptLemmas.{filter_map-mapped}
use Rattle.npf_expand.proofs.filter.listed_ports.Goals as goal

pub returns : goal.returns
returns c =
    let scope = c.args.scope.now in
    ap Some (c.of_vec.ensures ∙ c.in_ok-all.ensures ∙ ap (filter_map (λ atom. atom_ports (kept_atom atom))) c.as_slice.ensures.value
    ∙ filter_map-mapped atom_ports kept_atom c.in_ok-atoms.atoms.items
    ∙ ap (filter_map atom_ports) (c.in_ok-atoms.ensures ∙ ap (spliced (ifaces_of_scope scope) (env_of_scope scope)) c.listed_values.ensures))
