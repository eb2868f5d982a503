-- The laws of shown texts.
use Rattle.std.specs.Prelude.{◌≡◌, ℕ, Ok, List, []}
use Rattle.std.specs.List.{All}
use Rattle.npf_lexer.specs.declared.token.Token.{Token}
use Rattle.npf_lexer.specs.Lexer.{IsLexed}
use Rattle.npf_syntax.specs.declared.stmt.Tree.{Tree}
use Rattle.npf_model.specs.declared.iface.Iface.{Iface}
use Rattle.npf_model.specs.declared.model.Model.{Model}
use Rattle.npf_parser.specs.Parse.{Parses}
use Rattle.npf_expand_interfaces.specs.IfaceFile.{IsIfaceFile}
use Rattle.npf_expand.specs.Elaborates.{Elaborates}
use Rattle.npf_check.specs.Fault.{check_faults}
use Rattle.npf_show_tokens.specs.Showable.{FitsAddr, IsShowable}
use Rattle.npf_show_meaning.specs.Law.{MeansAgain}
use Rattle.npf_show_meaning.specs.Regular.{IsRegular}
use Rattle.npf_show_law.specs.Sound.{AreSoundTokens}

-- the tokens of a text are sound
abbrev pub TokensAreSound : Type 0
TokensAreSound = (text : List ℕ) (tokens : List Token) → IsLexed text (Ok tokens) → AreSoundTokens tokens

-- the addresses of interfaces that a file says fit their families
abbrev pub InterfacesFit : Type 0
InterfacesFit = (text : List ℕ) (ifaces : List Iface) → IsIfaceFile text ifaces → All (λ i. All FitsAddr i.addrs) ifaces

-- the model of an accepted text is one of which the canonical text is read again, where the addresses of interfaces fit their families
abbrev pub AcceptedIsShown : Type 0
AcceptedIsShown = (text : List ℕ) (tokens : List Token) (tree : Tree) (ifaces : List Iface) (model : Model)
    → IsLexed text (Ok tokens) → Parses tokens tree → All (λ i. All FitsAddr i.addrs) ifaces → Elaborates tree ifaces model → check_faults tree model ≡ []
    → IsShowable model × IsRegular ifaces model

-- so the canonical text of what an accepted text means, means it again
abbrev pub LawOfShow : Type 0
LawOfShow = (text : List ℕ) (tokens : List Token) (tree : Tree) (ifaces : List Iface) (model : Model)
    → IsLexed text (Ok tokens) → Parses tokens tree → All (λ i. All FitsAddr i.addrs) ifaces → Elaborates tree ifaces model → check_faults tree model ≡ []
    → MeansAgain ifaces model
