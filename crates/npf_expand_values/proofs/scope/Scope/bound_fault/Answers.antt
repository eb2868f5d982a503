use Rattle.std.proofs.Common.{◌≡◌, ap, ◌∙◌}
use Rattle.npf_faults.specs.First.{first_fault}
use Rattle.npf_expand_values.specs.{Host.one_place_faults, Scope.{all_known, env_of_scope, ifaces_of_scope}, Variable.{binding_of, bound_faults}}
use Rattle.npf_expand_values.proofs.KeptLemmas.{bound_where}
use Rattle.npf_expand_values.proofs.scope.Scope.bound_fault.Goals as goal

pub returns-in-Some : goal.returns-in-Some
returns-in-Some c =
    let scope = c.args.self.now in
    let ifaces = ifaces_of_scope scope in
    let role = c.args.role in
    bound_where (λ o. c.one_place_fault.result ≡ first_fault (bound_faults ifaces role c.args.value.now o)) (all_known scope) c.in-Some.bound
    (binding_of ifaces (env_of_scope scope) c.args.value.now) c.in-Some.ensures
    (λ binding is. c.one_place_fault.ensures (all_known scope) binding is ∙ ap (λ span. first_fault (one_place_faults ifaces role span binding)) c.value_span.ensures)
