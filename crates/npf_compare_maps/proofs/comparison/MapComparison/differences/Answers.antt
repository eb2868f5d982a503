use Rattle.std.proofs.Common.{refl, sym, subst, ◌∙◌, arith}
use Rattle.npf_compare_maps.specs.Side.{AreToldUpTo}
use Rattle.npf_compare_maps.proofs.RowLemmas.{told_all, told_nothing}
use Rattle.npf_compare_maps.proofs.comparison.MapComparison.differences.Goals as goal

pub loop-old-init : goal.loop-old-init
loop-old-init c = record {
  told = subst (AreToldUpTo c.args.self.now 0 0) (sym c.new-differences.ensures.items) (told_nothing c.args.self.now);
  most = refl;
  rises = omega arith;
}

pub loop-old-preserved : goal.loop-old-preserved
loop-old-preserved c = record {
  told = c.in_ok-add_row.ensures.told;
  most = c.in_ok-add_row.ensures.most ∙ c.loop-old.invariant.most;
  rises = omega (arith, c.in_ok-add_row.ensures.rises, c.loop-old.invariant.rises);
}

pub returns-clause-differences : goal.returns-clause-differences
returns-clause-differences c =
    told_all c.args.self.now c.loop-old.old c.loop-old.differences.items (omega (arith, c.loop-old-test.false, c.maps-old-end.ensures)) c.loop-old.invariant.told
