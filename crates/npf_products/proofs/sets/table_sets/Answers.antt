use Rattle.std.proofs.Common.{◌≡◌, ◌∙◌, [], get_or, arith}
use Rattle.std.proofs.lemmas.List.{get_or_default}
use Rattle.npf_products.proofs.SetsLemmas.{tables_more}
use Rattle.npf_products.proofs.sets.table_sets.Goals as goal

pub loop-table-preserved : goal.loop-table-preserved
loop-table-preserved c =
    let tables = c.args.tables.now in
    let i = c.loop-table.table-index in
    let inv = c.loop-table.invariant in
    let own = c.as_slice.result.now in
    let is : own ≡ get_or tables i [] = c.as_slice.ensures ∙ c.table-item.is ∙ get_or_default tables i c.table-item.result [] c.loop-table-test.true in
    record {
      below = c.in_ok-add_set.ensures.below;
      count = omega (arith, c.in_ok-add_set.ensures.counted, inv.count);
      sets_are = tables_more tables i own c.loop-table.sets.ranges.items c.add_set.new.sets.ranges.items c.loop-table.sets.count c.add_set.new.sets.count
          c.loop-table-test.true is inv.count c.in_ok-add_set.ensures.grows c.in_ok-add_set.ensures.set inv.sets_are;
    }
