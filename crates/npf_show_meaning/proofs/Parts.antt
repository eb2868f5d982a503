-- The statements of a canonical text, and what each says of the model.
use Rattle.std.proofs.Common.{◌≡◌, ◌≤◌, ℕ, ◌+◌, if◌then◌else◌, List, [], ◌∷◌, codes, map, sum_by}
use Rattle.npf_types.specs.{declared.limits.TheConstants.MAX_LIST_ELEMENTS, Name.name_bytes}
use Rattle.npf_syntax.specs.declared.stmt.Stmt.{Stmt}
use Rattle.npf_model.specs.declared.{group.Group.Group, iface.Iface.Iface, map.Map.Map, model.Model.Model, procedure.Procedure.Procedure}
use Rattle.npf_model.specs.declared.{settings.Choice.Choice, table.TableDecl.TableDecl}
use Rattle.npf_expand_values.specs.{Declarations.{table_name, procedure_name}, Variable.Definition, Source.declared_of}
use Rattle.npf_expand.specs.Elaborates.{behind, stmt_elements, stmt_faults, named_group, default_group, maps_of, procedures_of}
use Rattle.npf_expand.specs.{Settings.{algs_in, settings_in}, Table.tables_of}
use Rattle.npf_show_meaning.{specs.{Law.AreSameTables, Regular.{entry_elements, pass_elements}}, proofs.Says.nameless}

pub data Part : Type 0 where
  OfSet : (choice : Choice) → Part
  OfAlg : Part
  OfTable : (table : TableDecl) → Part
  OfMap : (m : Map) → Part
  OfProcedure : (procedure : Procedure) → Part
  OfGroup : (group : Group) → Part

abbrev pub sets_in : Part → List Choice
sets_in (OfSet choice) = choice ∷ []
sets_in _ = []

abbrev pub gateways_in : Part → List (List ℕ)
gateways_in OfAlg = codes "icmp" ∷ []
gateways_in _ = []

abbrev pub tables_in : Part → List TableDecl
tables_in (OfTable table) = table ∷ []
tables_in _ = []

abbrev pub maps_in : Part → List Map
maps_in (OfMap m) = m ∷ []
maps_in _ = []

abbrev pub procedures_in : Part → List Procedure
procedures_in (OfProcedure procedure) = procedure ∷ []
procedures_in _ = []

abbrev pub named_in : Part → List Group
named_in (OfGroup group) = if group.default then [] else group ∷ []
named_in _ = []

abbrev pub default_in : Part → List Group
default_in (OfGroup group) = if group.default then group ∷ [] else []
default_in _ = []

abbrev pub part_elements : Part → ℕ
part_elements (OfMap m) = pass_elements m.filter
part_elements (OfGroup group) = sum_by entry_elements group.items
part_elements _ = 0

module _ (ifaces : List Iface) (model : Model) where
  -- the statement is the part of the model, but for places
  pub record SaysPartOf (part : Part) (stmt : Stmt) : Type 0 where
    pub plain : (older : List Definition) → behind older stmt ≡ older
    pub faults : (counted : ℕ) → counted + part_elements part ≤ MAX_LIST_ELEMENTS → stmt_faults ifaces (declared_of model) (nameless ifaces) counted stmt ≡ []
    pub count : stmt_elements ifaces (declared_of model) (nameless ifaces) stmt ≡ part_elements part
    pub named : named_group ifaces (declared_of model) (nameless ifaces) stmt ≡ named_in part
    pub default : default_group ifaces (declared_of model) (nameless ifaces) stmt ≡ default_in part
    pub maps : maps_of ifaces (declared_of model) (nameless ifaces) stmt ≡ maps_in part
    pub tables : AreSameTables (tables_in part) (tables_of stmt)
    pub procedures : procedures_of stmt ≡ procedures_in part
    pub table_names : table_name stmt ≡ map (λ table. name_bytes table.name) (tables_in part)
    pub procedure_names : procedure_name stmt ≡ map (λ procedure. procedure.name) (procedures_in part)
    pub settings : settings_in stmt ≡ sets_in part
    pub algs : algs_in stmt ≡ gateways_in part
