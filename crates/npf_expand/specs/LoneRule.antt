-- What one rule means that stands in no text: no definition stands before it, so every variable in it is unknown, and its tables and
-- procedures are these.
use Rattle.std.specs.Prelude.{◌≡◌, ℕ, List, []}
use Rattle.npf_faults.specs.declared.fault.ConfFault.{ConfFault}
use Rattle.npf_faults.specs.declared.fault.Refused.{Refused}
use Rattle.npf_syntax.specs.declared.rule.RuleTree.{RuleTree}
use Rattle.npf_model.specs.declared.iface.Iface.{Iface}
use Rattle.npf_model.specs.declared.rule.Rule.{Rule}
use Rattle.npf_faults.specs.First.{IsFirstFaultOf}
use Rattle.npf_expand_values.specs.Declarations.{Declared}
use Rattle.npf_expand_values.specs.Variable.{env_of}
use Rattle.npf_expand.specs.Rule.{filter_count, rule_faults, rule_of_tree}

-- all faults of the rule, but for the number of its elements
abbrev pub faults_alone : RuleTree → List Iface → List ConfFault
faults_alone tree ifaces = rule_faults ifaces (env_of ifaces []) tree

-- the rule of a tree, which is what it means where it has no fault
abbrev pub rule_alone : RuleTree → Declared → List Iface → Rule
rule_alone tree declared ifaces = rule_of_tree ifaces (env_of ifaces []) declared tree

-- how many elements its lists have as they are written
abbrev pub elements_alone : RuleTree → List Iface → ℕ
elements_alone tree ifaces = filter_count ifaces (env_of ifaces []) tree.filter

-- the tree has no fault, and means this rule
pub record ElaboratesRule (tree : RuleTree) (declared : Declared) (ifaces : List Iface) (rule : Rule) : Type 0 where
  pub clean : faults_alone tree ifaces ≡ []
  pub meant : rule ≡ rule_alone tree declared ifaces

-- why a rule is refused: its first fault; want of memory says nothing of it
abbrev pub RefusesRule : RuleTree → List Iface → Refused → Type 0
RefusesRule tree ifaces (Refused.Fault fault) = IsFirstFaultOf (faults_alone tree ifaces) fault
RefusesRule tree ifaces Refused.NoMemory = Unit {0}
