use Rattle.std.proofs.{Common.{sym, ◌∙◌}, lemmas.Result.IfOk-weaker}
use Rattle.npf_expand_values.specs.{Kept.AreSpliced, Scope.{env_of_scope, ifaces_of_scope, known_of_scope}}
use Rattle.npf_expand_values.{specs.Variable.{definition_faults, listed_values, spliced}, proofs.{FaultLemmas.{not_refused, refused}, KeptLemmas.same_binding}}
use Rattle.npf_expand_values.proofs.scope.Scope.definition.Goals as goal
use Rattle.npf_expand_values.proofs.scope.Scope.definition.Goals.{After-of}

pub returns-then-is_some-clause-behind : goal.returns-then-is_some-clause-behind
returns-then-is_some-clause-behind c = c.refused.ensures.behind (ifaces_of_scope c.args.self.now) (known_of_scope c.args.self.now)

pub returns-then-is_some-clause-binding : goal.returns-then-is_some-clause-binding
returns-then-is_some-clause-binding c =
    let scope = c.args.self.now in
    let faults = definition_faults (ifaces_of_scope scope) (env_of_scope scope) c.args.values.now in
    c.refused.ensures.binding (known_of_scope scope) ∙ same_binding _ _ _ _ c.is_list-many.ensures.value
    (refused (ifaces_of_scope scope) faults c.args.fault.now (spliced (ifaces_of_scope scope) (env_of_scope scope) (listed_values c.args.values.now)) c.requires
    (sym c.is_some.ensures ∙ c.if-is_some.true))

are : (c : After-of) → AreSpliced (ifaces_of_scope c.args.self.now) (known_of_scope c.args.self.now) c.in_ok-values.values
    (spliced (ifaces_of_scope c.args.self.now) (env_of_scope c.args.self.now) (listed_values c.args.values.now))
are c = rw c.listed_values.ensures at c.in_ok-values.ensures

pub returns-clause-behind : goal.returns-clause-behind
returns-clause-behind c =
    let scope = c.args.self.now in
    IfOk-weaker c.of.result _ _ (λ def behind. behind (ifaces_of_scope scope) (known_of_scope scope) _ (are c) c.is_list-many.ensures.alone) c.of.ensures.behind

pub returns-clause-binding : goal.returns-clause-binding
returns-clause-binding c =
    let scope = c.args.self.now in
    let faults = definition_faults (ifaces_of_scope scope) (env_of_scope scope) c.args.values.now in
    let left = not_refused (ifaces_of_scope scope) faults c.args.fault.now _ c.requires (sym c.is_some.ensures ∙ c.if-is_some.false) in
    IfOk-weaker c.of.result _ _ (λ def binding. binding (ifaces_of_scope scope) (known_of_scope scope) _ (are c) ∙ same_binding _ _ _ _ c.is_list-many.ensures.value left) c.of.ensures.binding
