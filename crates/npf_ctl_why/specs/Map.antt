-- What is said of a map that can't be, by the text.
use Rattle.std.specs.Prelude.{◌≡◌, ℕ, Option, Some, None, Ok, Err, List, ◌++◌, codes}
use Rattle.npf_types.specs.Reading.{IsOnly}
use Rattle.npf_faults.specs.declared.fault.ConfFault.{ConfFault}
use Rattle.npf_faults.specs.First.{IsFirstFaultOf}
use Rattle.npf_lexer.specs.Lexer.{IsLexed}
use Rattle.npf_lexer.specs.declared.token.Token.{Token}
use Rattle.npf_syntax.specs.declared.stmt.Tree.{Tree}
use Rattle.npf_parser.specs.Parse.{HasMeaning, Parses}
use Rattle.npf_parser.specs.Stmt.{file}
use Rattle.npf_model.specs.declared.iface.Iface.{Iface}
use Rattle.npf_model.specs.declared.model.Model.{Model}
use Rattle.npf_expand.specs.Elaborates.{Elaborates, tree_faults}
use Rattle.npf_why.specs.declared.sentence.Sentence.TheVariants.{ImpossibleMap}
use Rattle.npf_why.specs.Sentence.{words}
use Rattle.npf_why_map.specs.declared.reason.MapReason.{MapReason}
use Rattle.npf_why_map.specs.Place.{reason_at}
use Rattle.npf_why_map.specs.Reason.{reason_sentence}

-- the reason of the map that is written at this byte, by what the tree means; none where it means nothing
pub data IsReasonInTree (ifaces : List Iface) (tree : Tree) (at : ℕ) (reason : Option MapReason) : Type 0 where
  meant : (model : Model) → Elaborates tree ifaces model → reason ≡ reason_at at tree model → IsReasonInTree ifaces tree at reason
  meaningless : (fault : ConfFault) → IsFirstFaultOf (tree_faults tree ifaces) fault → reason ≡ None → IsReasonInTree ifaces tree at reason

-- the same by the text; none where it has no tree
pub data IsReasonIn (ifaces : List Iface) (text : List ℕ) (at : ℕ) (reason : Option MapReason) : Type 0 where
  read : (tokens : List Token) (tree : Tree) → IsOnly IsLexed text (Ok tokens) → Parses tokens tree → IsReasonInTree ifaces tree at reason → IsReasonIn ifaces text at reason
  halted : (tokens : List Token) → IsOnly IsLexed text (Ok tokens) → ¬ HasMeaning file tokens → reason ≡ None → IsReasonIn ifaces text at reason
  no_tokens : (fault : ConfFault) → IsOnly IsLexed text (Err fault) → reason ≡ None → IsReasonIn ifaces text at reason

abbrev pub sentence_on_map : Option MapReason → List ℕ
sentence_on_map None = words ImpossibleMap
sentence_on_map (Some reason) = reason_sentence reason

abbrev pub map_text : Option MapReason → List ℕ
map_text reason = codes "  " ++ (sentence_on_map reason ++ codes "\n")

-- the sentence on the map that is written at this byte
abbrev pub ExplainsMap : List Iface → List ℕ → ℕ → List ℕ → Type 0
ExplainsMap ifaces text at out = (reason : Option MapReason) × IsReasonIn ifaces text at reason × (out ≡ map_text reason)
