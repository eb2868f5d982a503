use Rattle.std.proofs.Common.{refl, sym, ap, ◌∙◌}
use Rattle.npf_faults.proofs.FirstLemmas.{is_first_fault}
use Rattle.npf_expand_values.specs.Source.{declared_by}
use Rattle.npf_expand.{specs.Elaborates.tree_faults, proofs.ReadLemmas.{state_model, tree_elaborates, tree_first}}
use Rattle.npf_expand.proofs.elaborate.expand_for.Goals as goal

pub returns-in-Some-clause-refused : goal.returns-in-Some-clause-refused
returns-in-Some-clause-refused c =
    let tree = c.args.tree.now in
    let ifaces = c.args.interfaces.now.list.now in
    let state = c.in_ok-state.state in
    is_first_fault (tree_faults tree ifaces) c.in-Some.fault
    (sym (tree_first tree ifaces ifaces
    (declared_by c.in_ok-declarations.declarations.source) c.as_slice-stmts.result.now state refl c.in_ok-declarations.ensures c.as_slice-stmts.ensures c.in_ok-state.ensures.first)
    ∙ c.in-Some.is)

pub returns-clause-ok : goal.returns-clause-ok
returns-clause-ok c =
    let tree = c.args.tree.now in
    let ifaces = c.args.interfaces.now.list.now in
    let state = c.in_ok-state.state in
    let none = c.in_default.is in
    tree_elaborates tree ifaces ifaces (declared_by c.in_ok-declarations.declarations.source) c.as_slice-stmts.result.now state refl c.in_ok-declarations.ensures c.as_slice-stmts.ensures
    c.in_ok-into_model.field-0 none c.in_ok-state.ensures.first (c.in_ok-state.ensures.adding none)
    (c.in_ok-into_model.ensures ∙ ap (λ stmts. state_model state.groups.items state.defaults.items state.maps.items stmts) c.as_slice-stmts.ensures)
