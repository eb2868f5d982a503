-- How many elements the lists of a model have: those of its rules, and of its maps' filters.
use Rattle.std.specs.Prelude.{ℕ, ◌+◌, unwrap_or}
use Rattle.std.specs.List.{sum_by}
use Rattle.std.specs.Option.{option_map}
use Rattle.npf_model.specs.declared.group.Group.{Group}
use Rattle.npf_model.specs.declared.group.Item.{Item}
use Rattle.npf_model.specs.declared.group.Item.TheVariants.{One, Dynamic}
use Rattle.npf_model.specs.declared.map.Map.{Map}
use Rattle.npf_model.specs.declared.model.Model.{Model}
use Rattle.npf_model.specs.Count.{elements_of}
use Rattle.npf_model.specs.Verdict.{all_rules}

abbrev pub filter_elements_of : Map → ℕ
filter_elements_of m = unwrap_or (option_map elements_of m.filter) 0

abbrev pub model_elements : Model → ℕ
model_elements model = sum_by (λ placed. elements_of placed.rule) (all_rules model.groups) + sum_by filter_elements_of model.maps

-- those of an item's rules, and of a group's
abbrev pub elements_in_item : Item → ℕ
elements_in_item (One rule) = elements_of rule
elements_in_item (Dynamic name dir on next_id rules) = sum_by (λ numbered. elements_of numbered.1) rules

abbrev pub group_elements : Group → ℕ
group_elements group = sum_by elements_in_item group.items
