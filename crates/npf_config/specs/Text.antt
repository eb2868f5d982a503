-- What a text of npf.conf(5) means by itself, and for what it is refused. The stages come one after another: its tokens, its
-- grammar, what the tree means, and the checks of both; the first stage that has a fault answers.
use Rattle.std.specs.Prelude.{◌≡◌, ℕ, Ok, Err, List, []}
use Rattle.npf_types.specs.Reading.{IsOnly}
use Rattle.npf_types.specs.declared.span.Span.{Span}
use Rattle.npf_faults.specs.declared.fault.ConfFault.{ConfFault}
use Rattle.npf_faults.specs.declared.fault.Fault.TheVariants.{Expected}
use Rattle.npf_lexer.specs.declared.token.Token.{Token}
use Rattle.npf_lexer.specs.Lexer.{IsLexed}
use Rattle.npf_syntax.specs.declared.stmt.Tree.{Tree}
use Rattle.npf_parser.specs.Parse.{Parses, HaltsAt}
use Rattle.npf_parser.specs.Stmt.{file}
use Rattle.npf_model.specs.declared.iface.Iface.{Iface}
use Rattle.npf_model.specs.declared.model.Model.{Model}
use Rattle.npf_faults.specs.First.{IsFirstFaultOf}
use Rattle.npf_expand.specs.Elaborates.{Elaborates, tree_faults}
use Rattle.npf_check.specs.Fault.{check_faults}

-- the text has these tokens and no others, and they this tree
pub record IsTreeOf (text : List ℕ) (tree : Tree) : Type 0 where
  pub tokens : List Token
  pub spelled : IsOnly IsLexed text (Ok tokens)
  pub parsed : Parses tokens tree

module _ (ifaces : List Iface) (text : List ℕ) where
  -- the text has this tree, which means this model, and no stage has a fault
  pub record Means (tree : Tree) (model : Model) : Type 0 where
    pub written : IsTreeOf text tree
    pub elaborated : Elaborates tree ifaces model
    pub checked : check_faults tree model ≡ []

  -- the fault that the first stage with one tells
  pub data RefusesText : ConfFault → Type 0 where
    in_tokens : (fault : ConfFault) → IsOnly IsLexed text (Err fault) → RefusesText fault
    in_grammar : (tokens : List Token) (span : Span) → IsOnly IsLexed text (Ok tokens) → HaltsAt file tokens span → RefusesText (record { span = span; fault = Expected })
    in_meaning : (tree : Tree) (fault : ConfFault) → IsTreeOf text tree → IsFirstFaultOf (tree_faults tree ifaces) fault → RefusesText fault
    in_checks : (tree : Tree) (model : Model) (fault : ConfFault) → IsTreeOf text tree → Elaborates tree ifaces model → IsFirstFaultOf (check_faults tree model) fault → RefusesText fault
