use Rattle.std.{proofs.{Common.{List, ℕ, Some, sym, ap, ◌∙◌}, lemmas.List.Folds.flat_map-map}, specs.{List.flat_map, Option.option_map}}
use Rattle.npf_model.specs.declared.iface.Iface.{Iface}
use Rattle.npf_expand_values.specs.{Address.items_of, Atom.kept_atom, Scope.{declared_of_scope, env_of_scope, ifaces_of_scope}, Variable.spliced}
use Rattle.npf_expand.proofs.filter.address_items.Goals as goal

pub returns-in_ok-items-in-Some : goal.returns-in_ok-items-in-Some
returns-in_ok-items-in-Some c =
    let scope = c.args.scope.now in
    let ifaces = ifaces_of_scope scope in
    let tables : List (List ℕ) = (declared_of_scope scope).tables in
    ap Some (c.of_vec.ensures ∙ c.in_ok-items-in-Some.ensures
    ∙ ap (λ (list : List Iface). flat_map (λ atom. items_of list tables (kept_atom atom)) c.as_slice.result.now) c.interfaces.ensures
    ∙ ap (flat_map (λ atom. items_of ifaces tables (kept_atom atom))) c.as_slice.ensures.value
    ∙ sym (flat_map-map (items_of ifaces tables) kept_atom c.in_ok-atoms-in-Some.atoms.items) ∙ ap (flat_map (items_of ifaces tables)) c.in_ok-atoms-in-Some.ensures)
    ∙ ap (option_map (λ values. flat_map (items_of ifaces tables) (spliced ifaces (env_of_scope scope) values))) c.in-Some.ensures
