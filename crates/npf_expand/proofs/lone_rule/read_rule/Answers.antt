use Rattle.std.proofs.{Common.{◌≡◌, ℕ, List, [], None, sym, ap, ◌∙◌}, Math.Path.fun_ext}
use Rattle.npf_model.specs.declared.iface.Iface.{Iface}
use Rattle.npf_faults.{specs.First.first_fault, proofs.FirstLemmas.{is_first_fault, no_first_fault}}
use Rattle.npf_expand_values.specs.{declared.variable.Variables.Variables, Atom.Env, Declarations.Declared, Scope.{env_in, ifaces_in}, Source.{declared_by, declared_of}, Variable.env_of}
use Rattle.npf_expand.{specs.{LoneRule.{faults_alone, rule_alone}, Rule.{rule_faults, rule_of_tree}}, proofs.ElementLemmas.lone_elements}
use Rattle.npf_expand.proofs.lone_rule.read_rule.Goals as goal

-- what follows of no definitions for these interfaces
at_last : {X : Type 0} (ifaces : List Iface) (variables : Variables) (f : List Iface → Env → X) → ((text : List ℕ) → env_in variables text ≡ None)
    → ifaces_in variables ≡ ifaces → f (ifaces_in variables) (env_in variables) ≡ f ifaces (env_of ifaces [])
at_last ifaces variables f none run = ap (f (ifaces_in variables)) (fun_ext none) ∙ ap (λ (list : List Iface). f list (env_of list [])) run

pub returns-in-Some-clause-refused : goal.returns-in-Some-clause-refused
returns-in-Some-clause-refused c =
    let tree = c.args.tree.now in
    let ifaces = c.args.interfaces.now.list.now in
    let told = c.rule_fault.ensures ∙ at_last ifaces c.new-variables.result (λ list env. first_fault (rule_faults list env tree)) c.new-variables.ensures.none c.new-variables.ensures.run in
    is_first_fault (faults_alone tree ifaces) c.in-Some.fault (sym told ∙ c.in-Some.is)

pub returns-clause-ok : goal.returns-clause-ok
returns-clause-ok c =
    let tree = c.args.tree.now in
    let ifaces = c.args.interfaces.now.list.now in
    let declared = declared_by c.in_ok-declarations.declarations.source in
    let told = c.rule_fault.ensures ∙ at_last ifaces c.new-variables.result (λ list env. first_fault (rule_faults list env tree)) c.new-variables.ensures.none c.new-variables.ensures.run in
    record {
      clean = no_first_fault (faults_alone tree ifaces) (sym told ∙ c.in_default.is);
      meant = c.in_ok-rule_of.ensures
          ∙ at_last ifaces c.new-variables.result (λ list env. rule_of_tree list env declared tree) c.new-variables.ensures.none c.new-variables.ensures.run
          ∙ ap (λ (names : Declared). rule_alone tree names ifaces) c.in_ok-declarations.ensures;
    }

pub returns-clause-elements : goal.returns-clause-elements
returns-clause-elements c =
    lone_elements c.args.tree.now (declared_of c.args.model.now) c.args.interfaces.now.list.now c.in_ok-rule_of.field-0 (returns-clause-ok c)
