-- Each stage that refuses a class's rule refuses the class.
use Rattle.std.proofs.Common.{◌≡◌, ℕ, Result, Ok, Err, IfOk, List, ◌++◌, refl, subst}
use Rattle.std.specs.Prelude.{IfErr}
use Rattle.npf_types.specs.Stages.{stops, goes_on, told, done}
use Rattle.npf_syntax.specs.declared.rule.RuleTree.{RuleTree}
use Rattle.npf_model.specs.declared.{iface.Iface.Iface, model.Model.Model, rule.Rule.Rule}
use Rattle.npf_config_changes.specs.declared.fault.ChangeFault.{ChangeFault}
use Rattle.npf_config_changes.specs.{Additions.{MeansRule, ReadsRule}, Told.EndsUnlessMemory}
use Rattle.npf_class.specs.Class.{MeansPassRule, ReadsClass, SaysUnlessMemory, own_fault, pass_bytes}

module _ (ifaces : List Iface) (model : Model) (text : List ℕ) where
  pub unread : (fault : ChangeFault) → EndsUnlessMemory (ReadsRule text) fault → EndsUnlessMemory (MeansPassRule ifaces model text) fault
  unread fault ends = λ other. stops (ends other)

  pub meaning : (tree : RuleTree) → ReadsRule text (Ok tree) → (result : Result Rule ChangeFault) → IfOk result (λ rule. MeansRule ifaces model tree (Ok rule))
      → IfOk result (λ rule. MeansPassRule ifaces model text (Ok rule))
  meaning tree reads (Ok rule) means = goes_on reads means
  meaning tree reads (Err fault) means = means

  pub meaningless : (tree : RuleTree) → ReadsRule text (Ok tree) → (result : Result Rule ChangeFault) → IfErr result (EndsUnlessMemory (MeansRule ifaces model tree))
      → IfErr result (EndsUnlessMemory (MeansPassRule ifaces model text))
  meaningless tree reads (Ok rule) ends = ends
  meaningless tree reads (Err fault) ends = λ other. goes_on reads (ends other)

module _ (ifaces : List Iface) (model : Model) (text whole : List ℕ) (is : whole ≡ pass_bytes ++ text) where
  pub class_read : (rule : Rule) → MeansPassRule ifaces model whole (Ok rule) → ReadsClass ifaces model text (Ok rule)
  class_read rule means = done (subst (λ (bytes : List ℕ). MeansPassRule ifaces model bytes (Ok rule)) is means)

  -- a fault without a place is want of memory
  pub class_refused : (fault : ChangeFault) → EndsUnlessMemory (MeansPassRule ifaces model whole) fault → SaysUnlessMemory (ReadsClass ifaces model text) (own_fault fault)
  class_refused ChangeFault.NoMemory ends = λ other. absurd (other refl)
  class_refused (ChangeFault.Conf fault) ends = λ other. told (subst (λ (bytes : List ℕ). MeansPassRule ifaces model bytes (Err (ChangeFault.Conf fault))) is (ends (λ same. cc)))
  class_refused ChangeFault.UnknownTable ends = λ other. absurd (other refl)
  class_refused (ChangeFault.Table fault) ends = λ other. absurd (other refl)
  class_refused ChangeFault.UnknownRuleset ends = λ other. absurd (other refl)
  class_refused ChangeFault.UnknownRule ends = λ other. absurd (other refl)
