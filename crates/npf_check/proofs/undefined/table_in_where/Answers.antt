use Rattle.std.proofs.Common.{ap, ◌∙◌}
use Rattle.npf_faults.specs.First.{first_fault}
use Rattle.npf_syntax.specs.declared.filter.EndsTree.{EndsTree}
use Rattle.npf_check.{specs.{Name.holds, Undefined.{tables_of_ends, tables_of_target}}, proofs.FaultLemmas.joined}
use Rattle.npf_check.proofs.undefined.table_in_where.Goals as goal

pub returns-in-From : goal.returns-in-From
returns-in-From c =
    let known = holds c.args.tables.now in
    let source = c.table_in_ends.ensures ∙ ap (λ (ends : EndsTree). first_fault (tables_of_ends known ends)) c.get.ensures in
    rw c.in-From.is (joined (tables_of_ends known c.in-From.from) (tables_of_target known c.in-From.to) _ _ _
    source c.table_in_target.ensures c.earlier.ensures)
