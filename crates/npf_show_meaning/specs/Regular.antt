-- Models as texts make them: names are those of their bytes, interfaces have their numbers in the run, numbers of tables and procedures
-- name the first of their name, what a filter says more stands beside protocols, no written list is empty, the default group is last,
-- all lists together have no more elements than a configuration may have, and settings have values that statements give them.
use Rattle.std.specs.Prelude.{◌≡◌, ◌<◌, ◌≤◌, ◌^◌, ℕ, ◌+◌, Bool, true, false, not, IfSome, is_some, Option, Some, None, List, [], ◌++◌, length, slice_get}
use Rattle.std.specs.List.{All, filter, sum_by}
use Rattle.std.specs.Str.{is_utf8}
use Rattle.npf_types.specs.declared.decision.Decision.TheVariants.{Pass}
use Rattle.npf_types.specs.declared.limits.TheConstants.{MAX_LIST_ELEMENTS}
use Rattle.npf_types.specs.declared.name.Name.{Name}
use Rattle.npf_types.specs.Name.{name_bytes}
use Rattle.npf_types.specs.Named.{named}
use Rattle.npf_types.specs.NameText.{is_name}
use Rattle.npf_model.specs.declared.ends.AddrItem.{AddrItem}
use Rattle.npf_model.specs.declared.ends.AddrItem.TheVariants.{Net, InTable}
use Rattle.npf_model.specs.declared.ends.Ends.{Ends}
use Rattle.npf_model.specs.declared.group.Group.{Group}
use Rattle.npf_model.specs.declared.group.Item.{Item}
use Rattle.npf_model.specs.declared.group.Item.TheVariants.{One, Dynamic}
use Rattle.npf_model.specs.declared.iface.Iface.{Iface}
use Rattle.npf_model.specs.declared.map.Map.{Map}
use Rattle.npf_model.specs.declared.map.Side.{Side}
use Rattle.npf_model.specs.declared.model.Model.{Model}
use Rattle.npf_model.specs.declared.rule.OnIf.{OnIf}
use Rattle.npf_model.specs.declared.rule.Rule.{Rule}
use Rattle.npf_model.specs.declared.rule.StateOpt.TheVariants.{Not}
use Rattle.npf_model.specs.declared.settings.Choice.{Choice}
use Rattle.npf_model.specs.declared.settings.Parameter.{Parameter}
use Rattle.npf_model.specs.declared.table.TableDecl.{TableDecl}
use Rattle.npf_model.specs.Count.{elements_of}
use Rattle.npf_model.specs.Settings.{choice_in, is_port}
use Rattle.npf_timeouts.specs.Timeouts.{is_timeout}
use Rattle.npf_expand_values.specs.Declarations.{table_number}
use Rattle.npf_expand_values.specs.Iface.{on_text}
use Rattle.npf_expand_values.specs.Source.{declared_of}
use Rattle.npf_show.specs.Ends.{name_of_table}
use Rattle.npf_show.specs.Rule.{name_of_procedure}

-- a name is the one that its bytes are
abbrev pub IsOfText : Name → Type 0
IsOfText name = named (name_bytes name) ≡ name

-- the number is that of the table whose name it stands for
pub record IsRegularTable (model : Model) (number : ℕ) : Type 0 where
  pub name : is_name (name_of_table (slice_get model.tables number)) ≡ true
  pub place : table_number (declared_of model).tables (name_of_table (slice_get model.tables number)) ≡ number

abbrev pub IsRegularItem : Model → AddrItem → Type 0
IsRegularItem model (Net prefix) = Unit {0}
IsRegularItem model (InTable number) = IsRegularTable model number

abbrev pub IsForward : ℕ × ℕ → Type 0
IsForward range = range.0 ≤ range.1

-- what is excluded is listed
abbrev pub IsExclusion : Bool → Option (List AddrItem) → Type 0
IsExclusion true None = ⊥
IsExclusion _ _ = Unit {0}

pub record AreRegularEnds (model : Model) (ends : Ends) : Type 0 where
  pub excluded : IsExclusion ends.excluded ends.addrs
  pub addrs : IfSome ends.addrs (λ items. (0 < length items) × All (IsRegularItem model) items)
  pub ports : IfSome ends.ports (λ ports. (0 < length ports) × All IsForward ports)

-- flags or an ICMP type, and not both, stand beside protocols
abbrev pub IsOneDetail : List ℕ → Option (ℕ × ℕ) → Option (ℕ × Option ℕ) → Type 0
IsOneDetail protos None None = Unit {0}
IsOneDetail protos (Some flags) None = (0 < length protos) × (flags.0 < 2 ^ 8) × (flags.1 < 2 ^ 8)
IsOneDetail protos None (Some icmp) = 0 < length protos
IsOneDetail protos (Some flags) (Some icmp) = ⊥

pub record IsRegularFilter (model : Model) (rule : Rule) : Type 0 where
  pub detail : IsOneDetail rule.protos rule.flags rule.icmp
  pub from : AreRegularEnds model rule.from
  pub to : AreRegularEnds model rule.to

-- the rule of a map says nothing but its filter
pub record IsFilterAlone (rule : Rule) : Type 0 where
  pub decision : rule.decision ≡ Pass
  pub state : rule.state ≡ Not
  pub dir : rule.dir ≡ None
  pub last : rule.last ≡ false
  pub on : rule.on ≡ None
  pub procedure : rule.procedure ≡ None

-- no default group says more than that it is one
pub record IsPlainHead (group : Group) : Type 0 where
  pub name : group.name ≡ []
  pub dir : group.dir ≡ None
  pub on : group.on ≡ None

abbrev pub is_default : Group → Bool
is_default group = group.default

-- how many elements a text's entries, and filters, have
abbrev pub entry_elements : Item → ℕ
entry_elements (One rule) = elements_of rule
entry_elements (Dynamic name dir on next_id rules) = 0

abbrev pub pass_elements : Option Rule → ℕ
pass_elements None = 0
pass_elements (Some rule) = elements_of rule

abbrev pub model_elements : Model → ℕ
model_elements model = sum_by (λ m. pass_elements m.filter) model.maps + sum_by (λ group. sum_by entry_elements group.items) model.groups

abbrev pub IsRegularSide : Side → Type 0
IsRegularSide side = IfSome side.ports IsForward

module _ (ifaces : List Iface) (model : Model) where
  -- the interface has the number of its name
  abbrev pub IsRegularOn : OnIf → Type 0
  IsRegularOn on = on ≡ on_text ifaces (Some (name_bytes on.name))

  pub record IsRegularRule (rule : Rule) : Type 0 where
    pub filter : IsRegularFilter model rule
    pub on : IfSome rule.on IsRegularOn
    pub procedure : IfSome rule.procedure (λ number. table_number (declared_of model).procedures (name_of_procedure (slice_get model.procedures number)) ≡ number)

  -- a ruleset is as it begins, without rules
  abbrev pub IsRegularEntry : Item → Type 0
  IsRegularEntry (One rule) = IsRegularRule rule
  IsRegularEntry (Dynamic name dir on next_id rules) = IsOfText name × IfSome on IsRegularOn × (next_id ≡ 1) × (rules ≡ [])

  pub record IsRegularGroup (group : Group) : Type 0 where
    pub head : group.default ≡ true → IsPlainHead group
    pub on : IfSome group.on IsRegularOn
    pub items : All IsRegularEntry group.items

  pub record IsRegularMap (m : Map) : Type 0 where
    pub on : IsRegularOn m.on
    pub inside : IsRegularSide m.inside
    pub outside : IsRegularSide m.outside
    pub filter : IfSome m.filter (λ rule. IsFilterAlone rule × IsRegularFilter model rule)

pub record IsRegularDecl (table : TableDecl) : Type 0 where
  pub name : IsOfText table.name
  pub file : IfSome table.file (λ file. is_utf8 file ≡ true)
  pub span : is_some table.file_span ≡ is_some table.file

-- a port that may be drawn, and a time that can be set
abbrev pub IsRegularChoice : Choice → Type 0
IsRegularChoice (Choice.Switch switch on) = Unit {0}
IsRegularChoice (Choice.Port bound port) = is_port port ≡ true
IsRegularChoice (Choice.Timeout timeout seconds) = is_timeout seconds ≡ true

pub record IsRegular (ifaces : List Iface) (model : Model) : Type 0 where
  pub settings : (parameter : Parameter) → IsRegularChoice (choice_in model.settings parameter)
  pub tables : All IsRegularDecl model.tables
  pub maps : All (IsRegularMap ifaces model) model.maps
  pub procedures : All (λ procedure. IfSome procedure.log IsOfText) model.procedures
  pub groups : All (IsRegularGroup ifaces model) model.groups
  pub order : model.groups ≡ filter (λ group. not (is_default group)) model.groups ++ filter is_default model.groups
  pub elements : model_elements model ≤ MAX_LIST_ELEMENTS
