use Rattle.std.proofs.Common.{ap, ◌∙◌}
use Rattle.npf_model.specs.Settings.{with_settings}
use Rattle.npf_expand.{specs.Settings.settings_in, proofs.SettingsLemmas.settings_step}
use Rattle.npf_expand.proofs.settings.settings_of.Goals as goal

pub loop-stmt-preserved : goal.loop-stmt-preserved
loop-stmt-preserved c = record {
  left = settings_step _ c.loop-stmt.settings _ c.args.stmts.now c.loop-stmt.stmt-index c.stmt-item.result c.loop-stmt-test.true c.loop-stmt.invariant.left
      (c.settings_behind-settings.ensures ∙ ap (λ stmt. with_settings c.loop-stmt.settings (settings_in stmt)) c.stmt-item.is);
}
