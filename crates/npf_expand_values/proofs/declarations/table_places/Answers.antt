use Rattle.std.proofs.Common.{subst, sym, arith}
use Rattle.npf_expand_values.{specs.{Declarations.table_name, Place.ArePlaces}, proofs.KeptLemmas.flat_map-more}
use Rattle.npf_expand_values.proofs.declarations.table_places.Goals as goal

pub loop-stmt-preserved : goal.loop-stmt-preserved
loop-stmt-preserved c = record {
  counted = omega (arith, c.in_ok-add_table.ensures.counted, c.loop-stmt.invariant.counted);
  named = subst (ArePlaces c.add_table.new.places)
      (sym (flat_map-more table_name c.args.stmts.now c.loop-stmt.stmt-index c.stmt-item.result _ c.loop-stmt-test.true c.stmt-item.is))
      (c.in_ok-add_table.ensures.added _ c.loop-stmt.invariant.named);
}
