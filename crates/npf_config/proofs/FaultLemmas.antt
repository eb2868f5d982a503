-- Each stage that refuses a text refuses the configuration.
use Rattle.std.proofs.Common.{◌≡◌, ℕ, Ok, Err, List, sym, subst}
use Rattle.npf_types.specs.Reading.{IsOnly}
use Rattle.npf_faults.specs.declared.fault.{ConfFault.ConfFault, Fault.{Fault, TheVariants.Expected}, Refused.Refused}
use Rattle.npf_lexer.specs.{declared.token.Token.Token, Lexer.{IfFault, IsLexed}}
use Rattle.npf_syntax.specs.declared.stmt.Tree.{Tree}
use Rattle.npf_parser.specs.{Parse.{OnFault, HaltsAt}, Stmt.file}
use Rattle.npf_model.specs.declared.{iface.Iface.Iface, model.Model.Model}
use Rattle.npf_expand.specs.Elaborates.{Elaborates, RefusesTree}
use Rattle.npf_check.specs.Fault.{RefusedByFirst, check_faults}
use Rattle.npf_config.specs.{Stage.{IfConf, told_by}, Text.{IsTreeOf, RefusesText, in_tokens, in_grammar, in_meaning, in_checks}}

module _ (ifaces : List Iface) (text : List ℕ) where
  pub tokens_refused : (refused : Refused) → IfFault (λ fault. IsOnly IsLexed text (Err fault)) refused → IfConf (RefusesText ifaces text) (told_by refused)
  tokens_refused (Refused.Fault fault) is = in_tokens fault is
  tokens_refused Refused.NoMemory is = tt

  pub grammar_refused : (tokens : List Token) → IsOnly IsLexed text (Ok tokens) → (refused : Refused) → OnFault {A = Tree} (Err refused) (λ fault. HaltsAt file tokens fault.span)
      → OnFault {A = Tree} (Err refused) (λ fault. fault.fault ≡ Expected) → IfConf (RefusesText ifaces text) (told_by refused)
  grammar_refused tokens spelled (Refused.Fault fault) halts expected =
      subst (λ (f : Fault). RefusesText ifaces text (record { span = fault.span; fault = f })) (sym expected) (in_grammar tokens fault.span spelled halts)
  grammar_refused tokens spelled Refused.NoMemory halts expected = tt

  pub meaning_refused : (tree : Tree) → IsTreeOf text tree → (refused : Refused) → RefusesTree tree ifaces refused → IfConf (RefusesText ifaces text) (told_by refused)
  meaning_refused tree is (Refused.Fault fault) first = in_meaning tree fault is first
  meaning_refused tree is Refused.NoMemory first = tt

  pub checks_refused : (tree : Tree) (model : Model) → IsTreeOf text tree → Elaborates tree ifaces model → (refused : Refused) → RefusedByFirst (check_faults tree model) refused
      → IfConf (RefusesText ifaces text) (told_by refused)
  checks_refused tree model is means (Refused.Fault fault) first = in_checks tree model fault is means first
  checks_refused tree model is means Refused.NoMemory first = tt
