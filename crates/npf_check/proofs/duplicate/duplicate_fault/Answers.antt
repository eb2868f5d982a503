use Rattle.std.{proofs.Common.◌++◌, specs.List.flat_map}
use Rattle.npf_check.specs.declared.name.NameKind.TheVariants as Names
use Rattle.npf_check.{specs.{Duplicate.{repeated, rulesets_of_stmt}, Name.{names_given, no_text}}, proofs.FaultLemmas.joined}
use Rattle.npf_check.proofs.duplicate.duplicate_fault.Goals as goal

pub returns : goal.returns
returns c =
    let stmts = c.as_slice-stmts.result.now in
    let variables = repeated no_text (names_given Names.Variable stmts) in
    let tables = repeated no_text (names_given Names.Table stmts) in
    let procedures = repeated no_text (names_given Names.Procedure stmts) in
    let groups = repeated no_text (names_given Names.Group stmts) in
    let rulesets = repeated no_text (flat_map rulesets_of_stmt stmts) in
    let two = joined variables tables _ _ _ c.in_ok-variable.ensures c.in_ok-table.ensures c.earlier.ensures in
    let three = joined (variables ++ tables) procedures _ _ _ two c.in_ok-procedure.ensures c.earlier-2.ensures in
    let four = joined (variables ++ tables ++ procedures) groups _ _ _ three c.in_ok-group.ensures c.earlier-statement.ensures in
    rw (← c.as_slice-stmts.ensures)
    (joined (variables ++ tables ++ procedures ++ groups) rulesets _ _ _ four c.in_ok-ruleset.ensures c.earlier-3.ensures)
