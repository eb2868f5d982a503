use Rattle.std.{proofs.Common.{◌≡◌, ◌++◌, take}, specs.List.flat_map}
use Rattle.npf_model.specs.Settings.{parameters}
use Rattle.npf_show.specs.{Piece.spelled, Setting.{changed_setting, set_line}}
use Rattle.npf_show.proofs.setting.show_settings.Given as goal

abbrev pub invariant-loop-parameter : goal.invariant-loop-parameter
invariant-loop-parameter l = l.page ≡ l.fn.page ++ spelled (flat_map set_line (flat_map (changed_setting l.fn.settings) (take l.parameter-index parameters)))
