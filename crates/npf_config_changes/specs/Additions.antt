-- A rule added to a ruleset while a run goes on: the next configuration and the rule's number, or why it is refused. All else of
-- the configuration stays.
use Rattle.std.specs.Prelude.{◌≡◌, ℕ, ◌+◌, nat_le, Result, Ok, Err, List, [], length}
use Rattle.npf_types.specs.Reading.{IsOnly}
use Rattle.npf_types.specs.declared.limits.TheConstants.{MAX_INSTRUCTIONS, MAX_LIST_ELEMENTS, MAX_RULES, MAX_RULE_WEIGHT}
use Rattle.npf_types.specs.declared.name.Name.{Name}
use Rattle.npf_types.specs.declared.span.Span.{Span}
use Rattle.npf_types.specs.Stages.{Stage, ◌andthen◌, gives, asks_that}
use Rattle.npf_faults.specs.declared.fault.ConfFault.{ConfFault}
use Rattle.npf_faults.specs.declared.fault.Excess.TheVariants.{Rules, Elements, Weight, Instructions}
use Rattle.npf_faults.specs.declared.fault.Fault.TheVariants.{Expected}
use Rattle.npf_faults.specs.declared.fault.Refused.TheVariants.{Fault as ARefusal}
use Rattle.npf_lexer.specs.declared.token.Token.{Token}
use Rattle.npf_lexer.specs.Lexer.{IsLexed}
use Rattle.npf_syntax.specs.declared.rule.RuleTree.{RuleTree}
use Rattle.npf_parser.specs.Parse.{Means as Parses, HaltsAt}
use Rattle.npf_parser.specs.Stmt.{lone_rule}
use Rattle.npf_faults.specs.First.{IsFirstFaultOf}
use Rattle.npf_model.specs.declared.iface.Iface.{Iface}
use Rattle.npf_model.specs.declared.model.Model.{Model}
use Rattle.npf_model.specs.declared.rule.Rule.{Rule}
use Rattle.npf_model.specs.Configuration.{Configuration}
use Rattle.npf_model.specs.Verdict.{all_rules}
use Rattle.npf_bpfgen.specs.RuleWeight.{weight_of}
use Rattle.npf_expand_values.specs.Source.{declared_of}
use Rattle.npf_expand.specs.LoneRule.{ElaboratesRule, RefusesRule}
use Rattle.npf_check.specs.LoneRule.{lone_faults}
use Rattle.npf_ruleset.specs.Flat.{instructions_of}
use Rattle.npf_config_changes.specs.declared.fault.ChangeFault.{ChangeFault}
use Rattle.npf_config_changes.specs.declared.fault.ChangeFault.TheVariants.{Conf}
use Rattle.npf_config_changes.specs.Changes.{FindsRuleset, with_ruleset}
use Rattle.npf_config_changes.specs.Elements.{model_elements}
use Rattle.npf_config_changes.specs.Told.{too_many}
use Rattle.npf_config_changes.specs.Rulesets.{with_rule_added}

-- the text is one rule, or the first fault of its tokens or of the grammar
pub data ReadsRule (text : List ℕ) : Result RuleTree ChangeFault → Type 0 where
  written : {tokens : List Token} {tree : RuleTree} → IsOnly IsLexed text (Ok tokens) → Parses lone_rule tokens tree → ReadsRule text (Ok tree)
  in_tokens : {fault : ConfFault} → IsOnly IsLexed text (Err fault) → ReadsRule text (Err (Conf fault))
  in_grammar : {tokens : List Token} {span : Span} → IsOnly IsLexed text (Ok tokens) → HaltsAt lone_rule tokens span →
      ReadsRule text (Err (Conf (record { span = span; fault = Expected })))

-- what the rule means in this model, or the first fault of its meaning or of the checks
pub data MeansRule (ifaces : List Iface) (model : Model) (tree : RuleTree) : Result Rule ChangeFault → Type 0 where
  meant : {rule : Rule} → ElaboratesRule tree (declared_of model) ifaces rule → lone_faults tree rule ≡ [] → MeansRule ifaces model tree (Ok rule)
  in_meaning : {fault : ConfFault} → RefusesRule tree ifaces (ARefusal fault) → MeansRule ifaces model tree (Err (Conf fault))
  in_checks : {rule : Rule} {fault : ConfFault} → ElaboratesRule tree (declared_of model) ifaces rule → IsFirstFaultOf (lone_faults tree rule) fault →
      MeansRule ifaces model tree (Err (Conf fault))

-- the limits that a rule which is added may pass, each told at the rule: those of all rules together, of which the last is the
-- instructions of their programs, and before them its own weight
abbrev pub KeepsCounts : Span → Model → Stage (Unit {0}) ChangeFault
KeepsCounts span next =
    asks_that (nat_le (length (all_rules next.groups)) MAX_RULES) (too_many span Rules (MAX_RULES + 1)) andthen λ _.
    asks_that (nat_le (model_elements next) MAX_LIST_ELEMENTS) (too_many span Elements (MAX_LIST_ELEMENTS + 1)) andthen λ _.
    let count = instructions_of (all_rules next.groups) in
    asks_that (nat_le count MAX_INSTRUCTIONS) (too_many span Instructions count)

abbrev pub KeepsLimits : Span → Rule → Model → Stage (Unit {0}) ChangeFault
KeepsLimits span rule next =
    asks_that (nat_le (weight_of rule) MAX_RULE_WEIGHT) (too_many span Weight (weight_of rule)) andthen λ _. KeepsCounts span next

-- the rule that the text writes is added to the ruleset, and has this number
abbrev pub AddsRule : Configuration → Name → List Iface → List ℕ → Stage (Configuration × ℕ) ChangeFault
AddsRule old name ifaces text =
    FindsRuleset name old.model andthen λ dynamic.
    ReadsRule text andthen λ tree.
    MeansRule ifaces old.model tree andthen λ rule.
    let next = with_ruleset name (with_rule_added rule) old in
    KeepsLimits tree.span rule next.model andthen λ _. gives (next, dynamic.next_id)
