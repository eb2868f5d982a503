use Rattle.std.proofs.Common.{◌++◌, [], ◌∷◌, ap₂, sym, ◌∙◌, zero-add}
use Rattle.std.proofs.lemmas.List.FromFn.{map-range_with_len_more}
use Rattle.npf_unused.specs.Unused.{table_finding}
use Rattle.npf_unused.proofs.table.table_findings.Goals as goal

pub loop-number-preserved : goal.loop-number-preserved
loop-number-preserved c =
    let number = c.loop-number.number in
    c.in_ok-push.ensures.items
    ∙ ap₂ (λ found one. found ++ one ∷ []) c.loop-number.invariant c.table_finding.ensures
    ∙ sym (map-range_with_len_more (table_finding (record { model = c.args.model.now; tables = c.args.tables.now })) 0 number number (zero-add number))
