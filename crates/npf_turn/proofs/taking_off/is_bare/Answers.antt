use Rattle.npf_turn.proofs.TakingOffLemmas.{bare_on}
use Rattle.npf_turn.proofs.taking_off.is_bare.Goals as goal

pub loop-digit-preserved : goal.loop-digit-preserved
loop-digit-preserved g c = record {
  own = c.load_cell.ensures.own;
  bare = bare_on c.args.node _ _ _ c.loop-digit.digit c.load_cell.result c.loop-digit.invariant.bare c.load_cell.ensures.next c.if-load_cell-ne-NOTHING.false;
}
