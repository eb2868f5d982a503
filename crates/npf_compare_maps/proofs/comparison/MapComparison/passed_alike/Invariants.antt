use Rattle.std.proofs.Common.{◌≡◌, ◌≤◌}
use Rattle.npf_compare_maps.specs.Side.{IsAlikeAmong, config_after, config_before}
use Rattle.npf_compare_maps.proofs.PassedLemmas.{AreNoneBefore}
use Rattle.npf_compare_maps.proofs.comparison.MapComparison.passed_alike.Given as goal

abbrev pub invariant-loop-at : goal.invariant-loop-at
invariant-loop-at l = record {
  none : AreNoneBefore l.self.before.config (IsAlikeAmong (config_before l.self) (config_after l.self) l.among) l.at;
  most : l.steps.most ≡ l.initial.steps.most;
  rises : l.initial.steps.taken ≤ l.steps.taken;
}
