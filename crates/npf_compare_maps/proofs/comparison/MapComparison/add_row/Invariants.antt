use Rattle.std.proofs.Common.{◌≡◌, ◌≤◌}
use Rattle.npf_compare_maps.specs.Side.{AreToldUpTo}
use Rattle.npf_compare_maps.proofs.comparison.MapComparison.add_row.Given as goal

abbrev pub invariant-loop-new : goal.invariant-loop-new
invariant-loop-new l = record {
  told : AreToldUpTo l.self l.old l.new l.differences.items;
  most : l.steps.most ≡ l.initial.steps.most;
  rises : l.initial.steps.taken ≤ l.steps.taken;
}
