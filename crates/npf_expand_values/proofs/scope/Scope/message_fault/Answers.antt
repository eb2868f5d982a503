use Rattle.std.proofs.Common.{◌≡◌, ap, ◌∙◌}
use Rattle.npf_faults.specs.First.{first_fault}
use Rattle.npf_names.specs.Icmp.{names_in}
use Rattle.npf_expand_values.specs.{Message.message_use_faults, Protocol.{one_binding, one_span}, Scope.{all_known, env_of_scope}}
use Rattle.std.specs.Prelude.{Some}
use Rattle.npf_expand_values.proofs.KeptLemmas.{bound_where}
use Rattle.npf_expand_values.proofs.scope.Scope.message_fault.Goals as goal

pub returns-in-Some : goal.returns-in-Some
returns-in-Some c =
    let scope = c.args.self.now in
    let names = names_in c.args.table in
    bound_where (λ o. c.message_fault.result ≡ first_fault (message_use_faults names (one_span c.args.one.now) o)) (all_known scope) c.in-Some.bound
    (one_binding (env_of_scope scope) c.args.one.now) c.in-Some.ensures
    (λ binding is. c.message_fault.ensures (all_known scope) binding is ∙ ap (λ span. first_fault (message_use_faults names span (Some binding))) c.one_span.ensures)
