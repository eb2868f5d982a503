-- What a configuration that is loaded in place of another takes over from it: of each dynamic ruleset whose name the one before has, the
-- next number and the numbered rules, in their order (npf.conf(5), "Groups"; npfctl(8), "Scripts"). All else is the file's.
use Rattle.std.specs.Prelude.{ℕ, Bool, true, ◌&&◌, Option, Some, None, List, [], ◌∷◌, filter, map, slice_get, unwrap_or}
use Rattle.std.specs.List.{list_all}
use Rattle.std.specs.Option.{is_some, option_map}
use Rattle.std.specs.Str.{bytes_eq}
use Rattle.npf_types.specs.declared.name.Name.{Name}
use Rattle.npf_model.specs.declared.ends.AddrItem.{AddrItem}
use Rattle.npf_model.specs.declared.ends.AddrItem.TheVariants.{Net, InTable}
use Rattle.npf_model.specs.declared.ends.Ends.{Ends}
use Rattle.npf_model.specs.declared.group.Group.{Group}
use Rattle.npf_model.specs.declared.group.Item.{Item}
use Rattle.npf_model.specs.declared.group.Item.TheVariants.{One, Dynamic}
use Rattle.npf_model.specs.declared.model.Model.{Model}
use Rattle.npf_model.specs.declared.procedure.Procedure.{Procedure}
use Rattle.npf_model.specs.declared.rule.Rule.{Rule}
use Rattle.npf_model.specs.declared.table.TableDecl.{TableDecl}
use Rattle.npf_model.specs.Configuration.{Configuration}
use Rattle.npf_model.specs.Verdict.{first_where}
use Rattle.npf_config_changes.specs.Rulesets.{Ruleset, are_one_name, rulesets_named}

-- where the table, and the procedure, of the same name stands in the file, if it has one
abbrev pub table_in : Model → TableDecl → Option ℕ
table_in file decl = first_where (λ other. are_one_name other.name decl.name) 0 file.tables

abbrev pub procedure_in : Model → Procedure → Option ℕ
procedure_in file procedure = first_where (λ other. bytes_eq other.name procedure.name) 0 file.procedures

-- the same of each table and each procedure of the configuration before, in its order
pub record Again : Type 0 where
  pub tables : List (Option ℕ)
  pub procedures : List (Option ℕ)

abbrev pub again_in : Model → Model → Again
again_in old file = record { tables = map (table_in file) old.tables; procedures = map (procedure_in file) old.procedures }

-- where what stood at this place stands now
abbrev pub place_again : List (Option ℕ) → ℕ → Option ℕ
place_again places place = unwrap_or (slice_get places place) None

module _ (again : Again) where
  -- the file has all tables and the procedure that a rule names
  abbrev pub has_item : AddrItem → Bool
  has_item (Net prefix) = true
  has_item (InTable place) = is_some (place_again again.tables place)

  abbrev pub has_items : Option (List AddrItem) → Bool
  has_items None = true
  has_items (Some items) = list_all has_item items

  abbrev pub has_procedure : Option ℕ → Bool
  has_procedure None = true
  has_procedure (Some place) = is_some (place_again again.procedures place)

  abbrev pub has_named : Rule → Bool
  has_named rule = has_items rule.from.addrs && has_items rule.to.addrs && has_procedure rule.procedure

  -- such a rule as it stands in the file: its tables and its procedure are those of the same names, and all else stays
  abbrev pub item_again : AddrItem → AddrItem
  item_again (Net prefix) = Net prefix
  item_again (InTable place) = InTable (unwrap_or (place_again again.tables place) place)

  abbrev pub ends_again : Ends → Ends
  ends_again ends = record ends { addrs = option_map (map item_again) ends.addrs }

  abbrev pub procedure_again : ℕ → ℕ
  procedure_again place = unwrap_or (place_again again.procedures place) place

  abbrev pub rule_again : Rule → Rule
  rule_again rule = record rule { from = ends_again rule.from; to = ends_again rule.to; procedure = option_map procedure_again rule.procedure }

  -- the rules that are taken over, with their numbers: one that names what the file doesn't define is left out
  abbrev pub rules_again : List (ℕ × Rule) → List (ℕ × Rule)
  rules_again rules = map (λ numbered. (numbered.0, rule_again numbered.1)) (filter (λ numbered. has_named numbered.1) rules)

  abbrev pub ruleset_again : Ruleset → Ruleset
  ruleset_again before = record { next_id = before.next_id; rules = rules_again before.rules }

  -- what the ruleset of the name had before takes the place of what the file says, if there was one
  abbrev pub taken_ruleset : Option Ruleset → Ruleset → Ruleset
  taken_ruleset None own = own
  taken_ruleset (Some before) own = ruleset_again before

  module _ (before : Name → Option Ruleset) where
    abbrev pub item_taken : Item → Item
    item_taken (One rule) = One rule
    item_taken (Dynamic name dir on next_id rules) =
        let taken = taken_ruleset (before name) (record { next_id = next_id; rules = rules }) in
        Dynamic name dir on taken.next_id taken.rules

    abbrev pub group_taken : Group → Group
    group_taken group = record group { items = map item_taken group.items }

-- the ruleset of this name
abbrev pub first_of : List Ruleset → Option Ruleset
first_of [] = None
first_of (dynamic ∷ _) = Some dynamic

abbrev pub ruleset_in : Model → Name → Option Ruleset
ruleset_in model name = first_of (rulesets_named name model)

-- the file's configuration with what it takes over from the one before
abbrev pub model_taken : Model → Model → Model
model_taken old file = record file { groups = map (group_taken (again_in old file) (ruleset_in old)) file.groups }

abbrev pub taken_over : Configuration → Configuration → Configuration
taken_over old file = record file { model = model_taken old.model file.model }
