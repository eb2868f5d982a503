use Rattle.std.proofs.Common.{subst, sym, arith}
use Rattle.npf_expand_values.{specs.{Declarations.procedure_name, Place.ArePlaces}, proofs.KeptLemmas.flat_map-more}
use Rattle.npf_expand_values.proofs.declarations.procedure_places.Goals as goal

pub loop-stmt-preserved : goal.loop-stmt-preserved
loop-stmt-preserved c = record {
  counted = omega (arith, c.in_ok-add_procedure.ensures.counted, c.loop-stmt.invariant.counted);
  named = subst (ArePlaces c.add_procedure.new.places)
      (sym (flat_map-more procedure_name c.args.stmts.now c.loop-stmt.stmt-index c.stmt-item.result _ c.loop-stmt-test.true c.stmt-item.is))
      (c.in_ok-add_procedure.ensures.added _ c.loop-stmt.invariant.named);
}
