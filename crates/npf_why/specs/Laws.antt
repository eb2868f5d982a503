-- What holds of the names of settings.
use Rattle.std.specs.Prelude.{◌≡◌, ◌↔◌, ℕ, true, List}
use Rattle.std.specs.List.{list_any}
use Rattle.std.specs.Str.{bytes_eq}
use Rattle.npf_syntax.specs.declared.stmt.Setting.{Setting}
use Rattle.npf_check.specs.Parameter.{is_idle_setting}
use Rattle.npf_why.specs.Known.{idle_settings}

-- those that are told as accepted without an effect are those that npf_check accepts so, with some value
abbrev pub IdleSettingsAreAccepted : Type 0
IdleSettingsAreAccepted = (name : List ℕ) → (list_any (bytes_eq name) idle_settings ≡ true) ↔ ((value : Setting) × (is_idle_setting name value ≡ true))
