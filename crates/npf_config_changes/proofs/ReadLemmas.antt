-- Each stage that refuses a rule's text refuses the change.
use Rattle.std.proofs.Common.{◌≡◌, ℕ, Ok, Err, List, refl, subst, sym}
use Rattle.npf_types.specs.Reading.{IsOnly}
use Rattle.npf_faults.specs.{declared.fault.{ConfFault.ConfFault, Fault.{Fault, TheVariants.Expected}, Refused.Refused}, First.IsFirstFaultOf}
use Rattle.npf_lexer.specs.{declared.token.Token.Token, Lexer.{IfFault, IsLexed}}
use Rattle.npf_syntax.specs.declared.rule.RuleTree.{RuleTree}
use Rattle.npf_parser.specs.{Parse.{OnFault, HaltsAt}, Stmt.lone_rule}
use Rattle.npf_model.specs.declared.{iface.Iface.Iface, model.Model.Model, rule.Rule.Rule}
use Rattle.npf_expand_values.specs.Source.{declared_of}
use Rattle.npf_expand.specs.LoneRule.{ElaboratesRule, RefusesRule}
use Rattle.npf_check.specs.LoneRule.{lone_faults}
use Rattle.npf_config_changes.specs.declared.fault.ChangeFault.TheVariants.{Conf}
use Rattle.npf_config_changes.specs.{Additions.{MeansRule, ReadsRule, in_checks, in_grammar, in_meaning, in_tokens}, Told.{EndsUnlessMemory, told_of_text}}

module _ (text : List ℕ) where
  pub tokens_refused : (refused : Refused) → IfFault (λ fault. IsOnly IsLexed text (Err fault)) refused → EndsUnlessMemory (ReadsRule text) (told_of_text refused)
  tokens_refused (Refused.Fault fault) is = λ _. in_tokens is
  tokens_refused Refused.NoMemory is = λ other. absurd (other refl)

  pub grammar_refused : (tokens : List Token) → IsOnly IsLexed text (Ok tokens) → (refused : Refused) → OnFault {A = RuleTree} (Err refused) (λ fault. HaltsAt lone_rule tokens fault.span)
      → OnFault {A = RuleTree} (Err refused) (λ fault. fault.fault ≡ Expected) → EndsUnlessMemory (ReadsRule text) (told_of_text refused)
  grammar_refused tokens spelled (Refused.Fault fault) halts expected =
      λ _. subst (λ (f : Fault). ReadsRule text (Err (Conf (record { span = fault.span; fault = f })))) (sym expected) (in_grammar spelled halts)
  grammar_refused tokens spelled Refused.NoMemory halts expected = λ other. absurd (other refl)

module _ (ifaces : List Iface) (model : Model) (tree : RuleTree) where
  pub meaning_refused : (refused : Refused) → RefusesRule tree ifaces refused → EndsUnlessMemory (MeansRule ifaces model tree) (told_of_text refused)
  meaning_refused (Refused.Fault fault) is = λ _. in_meaning is
  meaning_refused Refused.NoMemory is = λ other. absurd (other refl)

  pub checks_refused : (rule : Rule) → ElaboratesRule tree (declared_of model) ifaces rule → (fault : ConfFault) → IsFirstFaultOf (lone_faults tree rule) fault
      → EndsUnlessMemory (MeansRule ifaces model tree) (Conf fault)
  checks_refused rule means fault is = λ _. in_checks means is
