use Rattle.std.proofs.Common.{◌≡◌, ap, ◌∙◌}
use Rattle.npf_faults.specs.First.{first_fault}
use Rattle.npf_expand_values.specs.{declared.role.Role.TheVariants.AsInterface, Iface.{iface_binding, iface_span}, Scope.{all_known, env_of_scope}, Use.{one_use_faults, single_faults}}
use Rattle.npf_expand_values.proofs.KeptLemmas.{bound_where}
use Rattle.npf_expand_values.proofs.scope.Scope.iface_fault.Goals as goal

pub returns-in-Some : goal.returns-in-Some
returns-in-Some c =
    let scope = c.args.self.now in
    bound_where (λ o. c.single_fault.result ≡ first_fault (one_use_faults AsInterface (iface_span c.args.iface.now) o)) (all_known scope) c.in-Some.bound
    (iface_binding (env_of_scope scope) c.args.iface.now) c.in-Some.ensures
    (λ binding is. c.single_fault.ensures (all_known scope) binding is ∙ ap (λ span. first_fault (single_faults AsInterface span binding)) c.iface_span.ensures)
