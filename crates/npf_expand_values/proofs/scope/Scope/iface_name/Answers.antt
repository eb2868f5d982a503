use Rattle.std.{proofs.Common.◌≡◌, specs.Option.option_map}
use Rattle.npf_expand_values.specs.{Iface.{bound_name, iface_binding}, Scope.{all_known, env_of_scope}}
use Rattle.npf_expand_values.proofs.KeptLemmas.{bound_where}
use Rattle.npf_expand_values.proofs.scope.Scope.iface_name.Goals as goal

pub returns-in-Some : goal.returns-in-Some
returns-in-Some c =
    let scope = c.args.self.now in
    bound_where (λ o. option_map (λ name. name.now) c.name.result ≡ bound_name o) (all_known scope) c.in-Some.bound
    (iface_binding (env_of_scope scope) c.args.iface.now) c.in-Some.ensures (c.name.ensures (all_known scope))
