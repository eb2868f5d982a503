-- What is said of each map that can't be, of a text that means something.
use Rattle.std.specs.Prelude.{◌≡◌, ℕ, Some, Ok, List, zip}
use Rattle.std.specs.List.{Contains}
use Rattle.npf_types.specs.Reading.{IsOnly}
use Rattle.npf_faults.specs.declared.fault.ConfFault.{ConfFault}
use Rattle.npf_lexer.specs.Lexer.{IsLexed}
use Rattle.npf_lexer.specs.declared.token.Token.{Token}
use Rattle.npf_syntax.specs.declared.stmt.Tree.{Tree}
use Rattle.npf_parser.specs.Parse.{Parses}
use Rattle.npf_model.specs.declared.iface.Iface.{Iface}
use Rattle.npf_model.specs.declared.model.Model.{Model}
use Rattle.npf_expand.specs.Elaborates.{Elaborates}
use Rattle.npf_check.specs.Map.{bad_map_faults}
use Rattle.npf_check.specs.Name.{no_text}
use Rattle.npf_check.specs.WrittenMap.{written_maps}
use Rattle.npf_why_map.specs.declared.reason.MapReason.{MapReason}
use Rattle.npf_why_map.specs.Laws.{IsOfMapAt}
use Rattle.npf_ctl_why.specs.Map.{ExplainsMap, map_text}

-- the tokens, the tree and the meaning of a text, for a run with these interfaces
pub record MeansModel (ifaces : List Iface) (text : List ℕ) (tree : Tree) (model : Model) : Type 0 where
  pub tokens : List Token
  pub spelled : IsOnly IsLexed text (Ok tokens)
  pub parsed : Parses tokens tree
  pub elaborated : Elaborates tree ifaces model

-- the sentence is of a condition that holds of a map which is written at the fault's place
abbrev pub EachBadMapIsExplained : Type 0
EachBadMapIsExplained =
    (ifaces : List Iface) (text : List ℕ) (tree : Tree) (model : Model) (fault : ConfFault) (out : List ℕ)
    → MeansModel ifaces text tree model → Contains (bad_map_faults tree model) fault → ExplainsMap ifaces text fault.span.at out
    → (reason : MapReason) × IsOfMapAt fault.span.at (zip (written_maps no_text tree.stmts) model.maps) reason × (out ≡ map_text (Some reason))
