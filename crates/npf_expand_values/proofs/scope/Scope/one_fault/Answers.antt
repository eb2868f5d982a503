use Rattle.std.proofs.Common.{◌≡◌, ap, ◌∙◌}
use Rattle.npf_faults.specs.First.{first_fault}
use Rattle.npf_expand_values.specs.{declared.role.Role.TheVariants.AsProtocol, Protocol.{one_binding, one_span}, Scope.{all_known, env_of_scope}, Use.{each_use_faults, use_faults}}
use Rattle.npf_expand_values.proofs.KeptLemmas.{bound_where}
use Rattle.npf_expand_values.proofs.scope.Scope.one_fault.Goals as goal

pub returns-in-Some : goal.returns-in-Some
returns-in-Some c =
    let scope = c.args.self.now in
    bound_where (λ o. c.each_fault.result ≡ first_fault (each_use_faults AsProtocol (one_span c.args.one.now) o)) (all_known scope) c.in-Some.bound
    (one_binding (env_of_scope scope) c.args.one.now) c.in-Some.ensures
    (λ binding is. c.each_fault.ensures (all_known scope) binding is ∙ ap (λ span. first_fault (use_faults AsProtocol span binding.atoms)) c.one_span.ensures)
