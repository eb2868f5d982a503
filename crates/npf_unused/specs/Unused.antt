-- Which tables and procedures of a model are used: those that some rule, or the filter of some map, names (npf.conf(5), "Tables", "Procedures").
use Rattle.std.specs.Prelude.{ℕ, ◌==◌, ◌||◌, Bool, true, false, Option, Some, None, List, [], ◌∷◌, length, map, slice_get}
use Rattle.std.specs.List.{list_any, range_with_len}
use Rattle.npf_types.specs.declared.prefix.Prefix.{Prefix}
use Rattle.npf_model.specs.declared.ends.AddrItem.{AddrItem}
use Rattle.npf_model.specs.declared.ends.AddrItem.TheVariants.{Net, InTable}
use Rattle.npf_model.specs.declared.ends.Ends.{Ends}
use Rattle.npf_model.specs.declared.map.Map.{Map}
use Rattle.npf_model.specs.declared.model.Model.{Model}
use Rattle.npf_model.specs.declared.rule.Rule.{Rule}
use Rattle.npf_model.specs.Configuration.{Configuration}
use Rattle.npf_model.specs.Verdict.{PlacedRule, all_rules}
use Rattle.npf_unused.specs.declared.table.TableFinding.{TableFinding}
use Rattle.npf_unused.specs.declared.table.TableFinding.TheVariants.{Used, Empty, Unused}
use Rattle.npf_unused.specs.declared.usable.Usable.{Usable}
use Rattle.npf_unused.specs.declared.usable.Usable.TheVariants.{Table, Procedure}

-- ---- tables and procedures, by their numbers, which count from 0
abbrev pub item_uses : ℕ → AddrItem → Bool
item_uses table (Net prefix) = false
item_uses table (InTable number) = number == table

abbrev pub listed_use : ℕ → Option (List AddrItem) → Bool
listed_use table None = false
listed_use table (Some items) = list_any (item_uses table) items

abbrev pub end_uses : ℕ → Ends → Bool
end_uses table ends = listed_use table ends.addrs

abbrev pub calls : ℕ → Option ℕ → Bool
calls procedure None = false
calls procedure (Some called) = called == procedure

-- a rule uses the tables that it names at one of its ends, and the procedure that it calls
abbrev pub rule_uses : Usable → Rule → Bool
rule_uses (Table table) rule = end_uses table rule.from || end_uses table rule.to
rule_uses (Procedure procedure) rule = calls procedure rule.procedure

abbrev pub placed_uses : Usable → PlacedRule → Bool
placed_uses usable placed = rule_uses usable placed.rule

abbrev pub filter_uses : Usable → Option Rule → Bool
filter_uses usable None = false
filter_uses usable (Some rule) = rule_uses usable rule

abbrev pub map_uses : Usable → Map → Bool
map_uses usable map = filter_uses usable map.filter

-- some rule of the model uses it, or some map does
abbrev pub is_used : Model → Usable → Bool
is_used model usable = list_any (placed_uses usable) (all_rules model.groups) || list_any (map_uses usable) model.maps

-- ---- what is found of a table
-- a table that isn't there has no entries
abbrev pub has_entries : Option (List Prefix) → Bool
has_entries None = false
has_entries (Some []) = false
has_entries (Some (first ∷ others)) = true

-- of a table that nothing uses no more is said, whether it has entries or not
abbrev pub finding_by : Bool → Bool → TableFinding
finding_by true true = Used
finding_by true false = Empty
finding_by false filled = Unused

abbrev pub table_finding : Configuration → ℕ → TableFinding
table_finding config number = finding_by (is_used config.model (Table number)) (has_entries (slice_get config.tables number))

-- that of each table, in the order in which the model declares them
abbrev pub table_findings : Configuration → List TableFinding
table_findings config = map (table_finding config) (range_with_len 0 (length config.model.tables))

-- ---- and of a procedure: whether some rule calls it, of each in the order in which the model declares them
abbrev pub procedures_used : Model → List Bool
procedures_used model = map (λ place. is_used model (Procedure place)) (range_with_len 0 (length model.procedures))
