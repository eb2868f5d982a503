use Rattle.std.proofs.Common.{length, ap, ◌∙◌}
use Rattle.npf_faults.specs.First.{earlier}
use Rattle.npf_check.{specs.LoneRule.{table_numbers, table_place, unknown_table}, proofs.PairLemmas.{pairs_step, pairs_past}}
use Rattle.npf_check.proofs.lone_rule.TablesLeft.pass.Goals as goal

pub returns-in-Some-next_table : goal.returns-in-Some-next_table
returns-in-Some-next_table c = λ more.
    let first = c.args.self.now.first in
    let next = c.in-Some-next_table in
    pairs_step unknown_table first c.earlier-self.result (table_place c.args.value.now) c.in-Some.span more next.number (table_numbers next.rest.now) (table_numbers c.args.self.now.rest.now)
    c.in-Some.ensures next.ensures (c.earlier-self.ensures ∙ ap (earlier first) c.unknown_table.ensures)

pub returns-in_default-next_table : goal.returns-in_default-next_table
returns-in_default-next_table c = λ more.
    pairs_past unknown_table c.args.self.now.first (table_place c.args.value.now) more (table_numbers c.args.self.now.rest.now) (ap length c.in_default-next_table.ensures)
