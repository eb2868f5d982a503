-- The numbers of interfaces: a name has its first place in the list of the run's interfaces, counted from 1 up to 64, and
-- any other name has 0.
use Rattle.std.specs.Prelude.{ℕ, Bool, nat_le, if◌then◌else◌, Option, Some, None, List, map}
use Rattle.std.specs.Option.{option_map}
use Rattle.std.specs.Str.{bytes_eq}
use Rattle.npf_types.specs.declared.limits.TheConstants.{MAX_INTERFACES}
use Rattle.npf_types.specs.declared.name.Name.{Name}
use Rattle.npf_types.specs.Name.{name_bytes}
use Rattle.npf_model.specs.declared.group.Group.{Group}
use Rattle.npf_model.specs.declared.group.Item.{Item}
use Rattle.npf_model.specs.declared.group.Item.TheVariants.{One, Dynamic}
use Rattle.npf_model.specs.declared.iface.Iface.{Iface}
use Rattle.npf_model.specs.declared.map.Map.{Map}
use Rattle.npf_model.specs.declared.model.Model.{Model}
use Rattle.npf_model.specs.declared.rule.OnIf.{OnIf}
use Rattle.npf_model.specs.declared.rule.Rule.{Rule}
use Rattle.npf_model.specs.Verdict.{first_where}

abbrev pub is_named : Name → Iface → Bool
is_named name iface = bytes_eq (name_bytes iface.name) (name_bytes name)

abbrev pub number_of_place : Option ℕ → ℕ
number_of_place None = 0
number_of_place (Some place) = if nat_le place MAX_INTERFACES then place else 0

abbrev pub number_of_name : List Iface → Name → ℕ
number_of_name ifaces name = number_of_place (first_where (is_named name) 1 ifaces)

-- a model with the number of each interface that it names set by the list; all else stays
module _ (ifaces : List Iface) where
  abbrev pub numbered_on : OnIf → OnIf
  numbered_on on = record on { id = record { 0 = number_of_name ifaces on.name } }

  abbrev pub numbered_rule : Rule → Rule
  numbered_rule rule = record rule { on = option_map numbered_on rule.on }

  abbrev pub numbered_entry : ℕ × Rule → ℕ × Rule
  numbered_entry entry = (entry.0, numbered_rule entry.1)

  abbrev pub numbered_item : Item → Item
  numbered_item (One rule) = One (numbered_rule rule)
  numbered_item (Dynamic name dir on next_id rules) = Dynamic name dir (option_map numbered_on on) next_id (map numbered_entry rules)

  abbrev pub numbered_group : Group → Group
  numbered_group group = record group { on = option_map numbered_on group.on; items = map numbered_item group.items }

  abbrev pub numbered_map : Map → Map
  numbered_map m = record m { on = numbered_on m.on; filter = option_map numbered_rule m.filter }

  abbrev pub numbered : Model → Model
  numbered model = record model { groups = map numbered_group model.groups; maps = map numbered_map model.maps }
