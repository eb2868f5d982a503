use Rattle.std.{proofs.Common.{◌≤◌, length, ap, subst, sym, arith}, specs.List.sum_by}
use Rattle.npf_config_changes.{specs.Elements.{filter_elements_of, group_elements}, proofs.ElementLemmas.{few_elements, groups_are}}
use Rattle.npf_config_changes.proofs.limit.model_elements.Goals as goal

pub groups_elements-requires : goal.groups_elements-requires
groups_elements-requires c = subst (λ groups. sum_by group_elements groups ≤ 1208925819614629174706176) (sym c.as_slice.ensures) (few_elements c.args.model.now c.requires)

pub maps_elements-requires : goal.maps_elements-requires
maps_elements-requires c = subst (λ maps. length maps ≤ 256) (sym c.as_slice-2.ensures) c.requires.maps

pub returns : goal.returns
returns c =
    let groups = ap (sum_by group_elements) c.as_slice.ensures in
    let all = groups_are c.args.model.now.groups in
    let maps = ap (sum_by filter_elements_of) c.as_slice-2.ensures in
    let one = c.groups_elements.ensures.value in
    let other = c.maps_elements.ensures.value in
    omega arith
