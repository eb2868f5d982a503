use Rattle.std.proofs.Common.{◌≡◌, ◌++◌, ap, ◌∙◌}
use Rattle.npf_faults.specs.First.{first_fault}
use Rattle.npf_syntax.specs.declared.map.SideTree.{SideTree}
use Rattle.npf_check.{specs.{Name.holds, Undefined.{table_faults, tables_of_pass}}, proofs.FaultLemmas.joined}
use Rattle.npf_check.proofs.undefined.table_in_stmt.Goals as goal

pub returns-in-Map : goal.returns-in-Map
returns-in-Map c =
    let known = holds c.args.tables.now in
    let left = table_faults known c.in-Map.left.value in
    let right = table_faults known c.in-Map.right.value in
    let of_left : c.table_in_value.result ≡ first_fault left = c.table_in_value.ensures ∙ ap (λ (side : SideTree). first_fault (table_faults known side.value)) c.get.ensures in
    let of_right : c.table_in_value-in-Map.result ≡ first_fault right = c.table_in_value-in-Map.ensures ∙ ap (λ (side : SideTree). first_fault (table_faults known side.value)) c.get-in-Map.ensures in
    rw c.in-Map.is (joined (left ++ right) (tables_of_pass known c.in-Map.pass) _ _ _
    (joined left right _ _ _ of_left of_right c.earlier-sides.ensures) c.table_in_pass.ensures c.earlier.ensures)
