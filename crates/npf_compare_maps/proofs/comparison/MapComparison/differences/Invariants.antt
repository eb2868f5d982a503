use Rattle.std.proofs.Common.{◌≡◌, ◌≤◌}
use Rattle.npf_compare_maps.specs.Side.{AreToldUpTo}
use Rattle.npf_compare_maps.proofs.comparison.MapComparison.differences.Given as goal

abbrev pub invariant-loop-old : goal.invariant-loop-old
invariant-loop-old l = record {
  told : AreToldUpTo l.self l.old 0 l.differences.items;
  most : l.steps.most ≡ l.initial.steps.most;
  rises : l.initial.steps.taken ≤ l.steps.taken;
}
