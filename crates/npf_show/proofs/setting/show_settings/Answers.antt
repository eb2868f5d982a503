use Rattle.std.proofs.Common.{arith}
use Rattle.npf_model.specs.Settings.{parameters}
use Rattle.npf_show.proofs.SettingLemmas.{one_setting_more}
use Rattle.npf_show.proofs.setting.show_settings.Goals as goal

pub loop-parameter-preserved : goal.loop-parameter-preserved
loop-parameter-preserved c =
    one_setting_more _ c.args.settings parameters c.loop-parameter.parameter-index _ (omega (arith, c.loop-parameter-test.true))
    c.loop-parameter.invariant c.in_ok-show_changed.ensures
