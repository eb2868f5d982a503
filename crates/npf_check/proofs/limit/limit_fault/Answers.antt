use Rattle.std.proofs.Common.{◌++◌}
use Rattle.npf_types.specs.declared.limits.TheConstants.{MAX_RULES, MAX_TABLES, MAX_MAPS, MAX_PROCEDURES}
use Rattle.npf_faults.specs.declared.fault.Excess.TheVariants as Of
use Rattle.npf_check.{specs.Limit.past_faults, proofs.FaultLemmas.joined}
use Rattle.npf_check.proofs.limit.limit_fault.Goals as goal

pub returns : goal.returns
returns c =
    let stmts = c.as_slice-stmts.result.now in
    let rules = past_faults Of.Rules MAX_RULES stmts in
    let tables = past_faults Of.Tables MAX_TABLES stmts in
    let maps = past_faults Of.Maps MAX_MAPS stmts in
    let procedures = past_faults Of.Procedures MAX_PROCEDURES stmts in
    rw (← c.as_slice-stmts.ensures) (joined (rules ++ tables ++ maps) procedures _ _ _
    (joined (rules ++ tables) maps _ _ _ (joined rules tables _ _ _ c.past-rule.ensures c.past-table.ensures c.earlier.ensures) c.past-map.ensures c.earlier-2.ensures)
    c.past-procedure.ensures c.earlier-3.ensures)
