-- Models whose canonical text has the tokens of its pieces. Their numbers fit their types, what they name is there, names of tables are
-- words, what stands in quotes has no quote and no line feed, and flags have a letter. Models of accepted texts are such: npf_show_law.
use Rattle.std.specs.Prelude.{◌≡◌, ◌<◌, ◌^◌, ℕ, ⊤, true, IfSome, Ok, List, [], ◌∷◌, ◌++◌, length, map, slice_get}
use Rattle.std.specs.List.{All, list_all}
use Rattle.npf_types.specs.declared.address.Addr.{Addr}
use Rattle.npf_types.specs.declared.address.Addr.TheVariants.{V4, V6}
use Rattle.npf_types.specs.declared.prefix.Prefix.{Prefix}
use Rattle.npf_types.specs.Name.{name_bytes}
use Rattle.npf_lexer.specs.declared.token.Token.{Token}
use Rattle.npf_lexer.specs.declared.token.TokenKind.TheVariants as Kind
use Rattle.npf_lexer.specs.ByteClass.{is_string_byte}
use Rattle.npf_lexer.specs.Lexer.{IsLexed}
use Rattle.npf_model.specs.declared.ends.AddrItem.{AddrItem}
use Rattle.npf_model.specs.declared.ends.AddrItem.TheVariants.{Net, InTable}
use Rattle.npf_model.specs.declared.ends.Ends.{Ends}
use Rattle.npf_model.specs.declared.group.Group.{Group}
use Rattle.npf_model.specs.declared.group.Item.{Item}
use Rattle.npf_model.specs.declared.group.Item.TheVariants.{One, Dynamic}
use Rattle.npf_model.specs.declared.map.Map.{Map}
use Rattle.npf_model.specs.declared.map.Side.{Side}
use Rattle.npf_model.specs.declared.model.Model.{Model}
use Rattle.npf_model.specs.declared.procedure.Procedure.{Procedure}
use Rattle.npf_model.specs.declared.rule.Rule.{Rule}
use Rattle.npf_model.specs.declared.settings.Choice.{Choice}
use Rattle.npf_model.specs.declared.settings.Parameter.{Parameter}
use Rattle.npf_model.specs.declared.table.TableDecl.{TableDecl}
use Rattle.npf_model.specs.Settings.{choice_in}
use Rattle.npf_show.specs.Ends.{name_of_table}
use Rattle.npf_show.specs.Filter.{flag_text}
use Rattle.npf_show.specs.Model.{model_pieces}
use Rattle.npf_show.specs.Piece.{spelled}
use Rattle.npf_show.specs.Rule.{name_of_procedure}
use Rattle.npf_show_tokens.specs.Tokens.{is_run_word, kinds_of_pieces}

-- what can stand in quotes
abbrev pub IsPlain : List ℕ → Type 0
IsPlain text = list_all is_string_byte text ≡ true

abbrev pub FitsByte : ℕ → Type 0
FitsByte number = number < 2 ^ 8

abbrev pub FitsAddr : Addr → Type 0
FitsAddr (V4 bits) = bits < 2 ^ 32
FitsAddr (V6 bits) = bits < 2 ^ 128

pub record IsShowablePrefix (prefix : Prefix) : Type 0 where
  pub addr : FitsAddr prefix.addr
  pub len : FitsByte prefix.len

abbrev pub IsShowableRange : ℕ × ℕ → Type 0
IsShowableRange range = (range.0 < 2 ^ 16) × (range.1 < 2 ^ 16)

abbrev pub IsShowableItem : Model → AddrItem → Type 0
IsShowableItem model (Net prefix) = IsShowablePrefix prefix
IsShowableItem model (InTable number) = is_run_word (name_of_table (slice_get model.tables number)) ≡ true

pub record AreShowableEnds (model : Model) (ends : Ends) : Type 0 where
  pub addrs : IfSome ends.addrs (All (IsShowableItem model))
  pub ports : IfSome ends.ports (All IsShowableRange)

abbrev pub AreShowableFlags : ℕ × ℕ → Type 0
AreShowableFlags flags = (0 < length (flag_text flags.0)) × (0 < length (flag_text flags.1))

pub record IsShowableFilter (model : Model) (rule : Rule) : Type 0 where
  pub protos : All FitsByte rule.protos
  pub flags : IfSome rule.flags AreShowableFlags
  pub icmp : IfSome rule.icmp (λ icmp. FitsByte icmp.0 × IfSome icmp.1 FitsByte)
  pub from : AreShowableEnds model rule.from
  pub to : AreShowableEnds model rule.to

pub record IsShowableRule (model : Model) (rule : Rule) : Type 0 where
  pub filter : IsShowableFilter model rule
  pub procedure : IfSome rule.procedure (λ number. IsPlain (name_of_procedure (slice_get model.procedures number)))

abbrev pub IsShowableEntry : Model → Item → Type 0
IsShowableEntry model (One rule) = IsShowableRule model rule
IsShowableEntry model (Dynamic name dir on next_id rules) = ⊤

pub record IsShowableGroup (model : Model) (group : Group) : Type 0 where
  pub name : IsPlain group.name
  pub items : All (IsShowableEntry model) group.items

pub record IsShowableSide (side : Side) : Type 0 where
  pub net : IsShowablePrefix side.net
  pub ports : IfSome side.ports IsShowableRange

pub record IsShowableMap (model : Model) (m : Map) : Type 0 where
  pub proto : IfSome m.proto FitsByte
  pub inside : IsShowableSide m.inside
  pub outside : IsShowableSide m.outside
  pub filter : IfSome m.filter (IsShowableFilter model)

pub record IsShowableProcedure (procedure : Procedure) : Type 0 where
  pub name : IsPlain procedure.name
  pub min_ttl : IfSome procedure.min_ttl FitsByte
  pub max_mss : IfSome procedure.max_mss (λ number. number < 2 ^ 16)

pub record IsShowableTable (table : TableDecl) : Type 0 where
  pub name : is_run_word (name_bytes table.name) ≡ true
  pub file : IfSome table.file IsPlain

abbrev pub IsShowableChoice : Choice → Type 0
IsShowableChoice (Choice.Switch switch on) = ⊤
IsShowableChoice (Choice.Port bound port) = port < 2 ^ 16
IsShowableChoice (Choice.Timeout timeout seconds) = seconds < 2 ^ 32

pub record IsShowable (model : Model) : Type 0 where
  pub settings : (parameter : Parameter) → IsShowableChoice (choice_in model.settings parameter)
  pub tables : All IsShowableTable model.tables
  pub maps : All (IsShowableMap model) model.maps
  pub procedures : All IsShowableProcedure model.procedures
  pub groups : All (IsShowableGroup model) model.groups

-- the canonical text of such a model has the tokens of the model's pieces, and the end's
abbrev pub ShowsTokens : Type 0
ShowsTokens = (model : Model) → IsShowable model
    → (tokens : List Token) × (map (λ token. token.kind) tokens ≡ kinds_of_pieces (model_pieces model) ++ Kind.End ∷ [])
    × IsLexed (spelled (model_pieces model)) (Ok tokens)
