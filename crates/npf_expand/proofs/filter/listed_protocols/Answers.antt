use Rattle.std.{proofs.Common.{ap, ◌∙◌}, specs.List.filter_map}
use Rattle.npf_expand_values.{specs.{Atom.kept_atom, Protocol.protocol_of}, proofs.KeptLemmas.filter_map-mapped}
use Rattle.npf_expand.proofs.filter.listed_protocols.Goals as goal

pub returns : goal.returns
returns c =
    c.of_vec.ensures ∙ c.in_ok-all.ensures ∙ ap (filter_map (λ atom. protocol_of (kept_atom atom))) c.as_slice.ensures.value
    ∙ filter_map-mapped protocol_of kept_atom c.in_ok-atoms.atoms.items ∙ ap (filter_map protocol_of) c.in_ok-atoms.ensures
