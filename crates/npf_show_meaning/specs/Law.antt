-- The law of `show`: the canonical text of a model means that model again, but for the places in it.
use Rattle.std.specs.Prelude.{◌≡◌, is_some, Ok, List, [], ◌∷◌}
use Rattle.npf_lexer.specs.declared.token.Token.{Token}
use Rattle.npf_lexer.specs.Lexer.{IsLexed}
use Rattle.npf_syntax.specs.declared.stmt.Tree.{Tree}
use Rattle.npf_model.specs.declared.iface.Iface.{Iface}
use Rattle.npf_model.specs.declared.model.Model.{Model}
use Rattle.npf_model.specs.declared.table.TableDecl.{TableDecl}
use Rattle.npf_parser.specs.Parse.{Parses}
use Rattle.npf_expand.specs.Elaborates.{Elaborates}
use Rattle.npf_show.specs.Model.{model_pieces}
use Rattle.npf_show.specs.Piece.{spelled}
use Rattle.npf_show_tokens.specs.Showable.{IsShowable}
use Rattle.npf_show_meaning.specs.Regular.{IsRegular}

-- tables that differ in their places alone
pub record IsSameTable (one other : TableDecl) : Type 0 where
  pub name : one.name ≡ other.name
  pub kind : one.kind ≡ other.kind
  pub file : one.file ≡ other.file
  pub file_span : is_some one.file_span ≡ is_some other.file_span

abbrev pub AreSameTables : List TableDecl → List TableDecl → Type 0
AreSameTables [] [] = Unit {0}
AreSameTables (one ∷ ones) (other ∷ others) = IsSameTable one other × AreSameTables ones others
AreSameTables _ _ = ⊥

-- models that differ in the places of their tables alone
pub record SameButSpans (one other : Model) : Type 0 where
  pub groups : one.groups ≡ other.groups
  pub tables : AreSameTables one.tables other.tables
  pub maps : one.maps ≡ other.maps
  pub procedures : one.procedures ≡ other.procedures
  pub settings : one.settings ≡ other.settings
  pub alg_icmp : one.alg_icmp ≡ other.alg_icmp

-- the text of a model is that of a tree which means the model again
pub record MeansAgain (ifaces : List Iface) (model : Model) : Type 0 where
  pub tokens : List Token
  pub tree : Tree
  pub again : Model
  pub lexed : IsLexed (spelled (model_pieces model)) (Ok tokens)
  pub parsed : Parses tokens tree
  pub meant : Elaborates tree ifaces again
  pub same : SameButSpans model again

-- the canonical text of a model as texts make them means it again
abbrev pub ShownTextMeans : Type 0
ShownTextMeans = (ifaces : List Iface) (model : Model) → IsShowable model → IsRegular ifaces model → MeansAgain ifaces model
