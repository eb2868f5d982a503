-- The groups of a configuration: those with names in the order of the text, the default group last.
use Rattle.std.specs.Prelude.{ℕ, ◌+◌, true, false, None, List, [], ◌∷◌, ◌++◌, map}
use Rattle.std.specs.Option.{option_map}
use Rattle.npf_types.specs.Named.{named}
use Rattle.npf_faults.specs.declared.fault.ConfFault.{ConfFault}
use Rattle.npf_syntax.specs.declared.group.GroupHead.{GroupHead}
use Rattle.npf_syntax.specs.declared.group.GroupHead.TheVariants as Head
use Rattle.npf_syntax.specs.declared.group.ItemTree.{ItemTree as WrittenItem}
use Rattle.npf_syntax.specs.declared.group.ItemTree.TheVariants as ItemIs
use Rattle.npf_model.specs.declared.group.Group.{Group}
use Rattle.npf_model.specs.declared.group.Item.{Item}
use Rattle.npf_model.specs.declared.group.Item.TheVariants.{One, Dynamic}
use Rattle.npf_model.specs.declared.iface.Iface.{Iface}
use Rattle.npf_expand_values.specs.Atom.{Env}
use Rattle.npf_expand_values.specs.Declarations.{Declared}
use Rattle.npf_expand_values.specs.Iface.{on_iface}
use Rattle.npf_expand.specs.Rule.{dir_of, filter_count, on_faults, passing_faults, rule_faults, rule_of_tree}

module _ (ifaces : List Iface) (env : Env) (declared : Declared) where
  abbrev pub item_of_tree : WrittenItem → Item
  item_of_tree (ItemIs.Rule rule span) = One (rule_of_tree ifaces env declared rule)
  item_of_tree (ItemIs.Ruleset name dir on span) =
      Dynamic (named name.text) (option_map dir_of dir) (option_map (on_iface ifaces env) on) 1 []

  abbrev pub item_elements : WrittenItem → ℕ
  item_elements (ItemIs.Rule rule span) = filter_count ifaces env rule.filter
  item_elements (ItemIs.Ruleset name dir on span) = 0

  -- the faults of an item in front of which so many elements stand
  abbrev pub item_faults : ℕ → WrittenItem → List ConfFault
  item_faults counted (ItemIs.Rule rule span) =
      rule_faults ifaces env rule ++ passing_faults counted (item_elements (ItemIs.Rule rule span)) rule.span
  item_faults counted (ItemIs.Ruleset name dir on span) = on_faults ifaces env on

  abbrev pub items_faults : ℕ → List WrittenItem → List ConfFault
  items_faults counted [] = []
  items_faults counted (item ∷ items) = item_faults counted item ++ items_faults (counted + item_elements item) items

  abbrev pub items_elements : List WrittenItem → ℕ
  items_elements [] = 0
  items_elements (item ∷ items) = item_elements item + items_elements items

  abbrev pub head_faults : GroupHead → List ConfFault
  head_faults (Head.Named name dir layer on span) = on_faults ifaces env on
  head_faults (Head.Default layer span) = []

  abbrev pub group_of_tree : GroupHead → List WrittenItem → Group
  group_of_tree (Head.Named name dir layer on span) items = record {
    name = name.text;
    default = false;
    dir = option_map dir_of dir;
    on = option_map (on_iface ifaces env) on;
    items = map item_of_tree items;
  }
  group_of_tree (Head.Default layer span) items = record { name = []; default = true; dir = None; on = None; items = map item_of_tree items }
