use Rattle.std.{proofs.{Common.{◌≡◌, ◌<◌, length, ap, ◌∙◌, arith}, lemmas.List.{length-map, Sums.sum_by_more}}, specs.Arc.arc_value}
use Rattle.npf_table.specs.Table.{prefixes}
use Rattle.npf_ruleset.specs.Tables.{entries}
use Rattle.npf_config_changes.proofs.EntryLemmas.{entry_at}
use Rattle.npf_config_changes.proofs.entries.entry_count.Goals as goal

pub loop-table-preserved : goal.loop-table-preserved
loop-table-preserved c =
    let all = entries c.args.tables.now in
    let i = c.loop-table.table-index in
    let here = prefixes (arc_value c.table-item.result) in
    let same = length-map c.args.tables.now (λ table. prefixes (arc_value table)) in
    let test = c.loop-table-test.true in
    let below : i < length all = omega arith in
    let at = ap length (entry_at c.args.tables.now i c.table-item.result c.loop-table-test.true c.table-item.is) in
    let len : c.len.result ≡ length here = c.len.ensures.value ∙ ap (λ table. length (prefixes table)) c.deref.ensures in
    let more = sum_by_more length all i here below in
    let so_far = c.loop-table.invariant in
    let sum = c.saturating_add-count.ensures in
    omega arith
