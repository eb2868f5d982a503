use Rattle.std.{proofs.Common.{◌≡◌, drop}, specs.List.flat_map}
use Rattle.npf_model.specs.Settings.{with_settings}
use Rattle.npf_expand.specs.Settings.{settings_in, settings_of}
use Rattle.npf_expand.proofs.settings.settings_of.Given as goal

abbrev pub invariant-loop-stmt : goal.invariant-loop-stmt
invariant-loop-stmt l = record {
  left : settings_of l.fn.stmts ≡ with_settings l.settings (flat_map settings_in (drop l.stmt-index l.fn.stmts));
}
