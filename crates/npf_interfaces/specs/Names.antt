-- The names of interfaces in a model, and lists of interfaces with more of them.
use Rattle.std.specs.Prelude.{ℕ, Bool, if◌then◌else◌, Option, Some, None, List, [], ◌∷◌, ◌++◌}
use Rattle.std.specs.List.{flat_map, fold, list_any}
use Rattle.npf_types.specs.declared.name.Name.{Name}
use Rattle.npf_model.specs.declared.group.Group.{Group}
use Rattle.npf_model.specs.declared.group.Item.{Item}
use Rattle.npf_model.specs.declared.group.Item.TheVariants.{One, Dynamic}
use Rattle.npf_model.specs.declared.iface.Iface.{Iface}
use Rattle.npf_model.specs.declared.map.Map.{Map}
use Rattle.npf_model.specs.declared.model.Model.{Model}
use Rattle.npf_model.specs.declared.rule.OnIf.{OnIf}
use Rattle.npf_model.specs.declared.rule.Rule.{Rule}
use Rattle.npf_model.specs.Numbering.{is_named}

abbrev pub on_names : Option OnIf → List Name
on_names None = []
on_names (Some on) = on.name ∷ []

abbrev pub entry_names : ℕ × Rule → List Name
entry_names entry = on_names entry.1.on

abbrev pub item_names : Item → List Name
item_names (One rule) = on_names rule.on
item_names (Dynamic name dir on next_id rules) = on_names on ++ flat_map entry_names rules

abbrev pub group_names : Group → List Name
group_names group = on_names group.on ++ flat_map item_names group.items

abbrev pub map_names : Map → List Name
map_names map = map.on.name ∷ []

-- in the order of the text: those of groups, their rulesets and rules, and then those of maps
abbrev pub model_names : Model → List Name
model_names model = flat_map group_names model.groups ++ flat_map map_names model.maps

-- a list has an interface of this name
abbrev pub has_iface_named : List Iface → Name → Bool
has_iface_named ifaces name = list_any (is_named name) ifaces

abbrev pub new_iface : Name → Iface
new_iface name = record { name = name; addrs = [] }

-- with an interface of this name behind the others, if none of them has it
abbrev pub with_name : List Iface → Name → List Iface
with_name ifaces name = if has_iface_named ifaces name then ifaces else ifaces ++ (new_iface name ∷ [])

abbrev pub with_names : List Iface → List Name → List Iface
with_names ifaces names = fold with_name ifaces names
