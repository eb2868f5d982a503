use Rattle.std.proofs.Common.{◌≡◌, ◌≤◌}
use Rattle.npf_compare_maps.specs.Side.{IsTreatedAs, config_after}
use Rattle.npf_compare_maps.proofs.PassedLemmas.{AreNoneBefore}
use Rattle.npf_compare_maps.proofs.comparison.MapComparison.passed_as.Given as goal

abbrev pub invariant-loop-at : goal.invariant-loop-at
invariant-loop-at l = record {
  none : AreNoneBefore l.self.after.config (IsTreatedAs (config_after l.self) l.among l.effect) l.at;
  most : l.steps.most ≡ l.initial.steps.most;
  rises : l.initial.steps.taken ≤ l.steps.taken;
}
