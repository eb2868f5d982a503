-- What a configuration chooses for the whole of it: its settings, and whether errors of ICMP go back through a translation. A value
-- that sets nothing is for the checks to refuse.
use Rattle.std.specs.Prelude.{ℕ, Bool, Option, option_to_list, List, [], ◌∷◌, codes}
use Rattle.std.specs.List.{flat_map, list_any}
use Rattle.std.specs.Str.{bytes_eq}
use Rattle.npf_syntax.specs.declared.stmt.Setting.{Setting}
use Rattle.npf_syntax.specs.declared.stmt.Stmt.{Stmt}
use Rattle.npf_model.specs.declared.settings.Choice.{Choice}
use Rattle.npf_model.specs.declared.settings.Settings.{Settings}
use Rattle.npf_model.specs.Settings.{choice_by_number, choice_by_word, default_settings, with_settings}

-- what a value sets the parameter of a name to
abbrev pub choice_of : List ℕ → Setting → Option Choice
choice_of name (Setting.Word word span) = choice_by_word name word.text
choice_of name (Setting.Number number span) = choice_by_number name number.value

-- what a statement sets
abbrev pub settings_in : Stmt → List Choice
settings_in (Stmt.Set name value span) = option_to_list (choice_of name.text value)
settings_in _ = []

abbrev pub settings_of : List Stmt → Settings
settings_of stmts = with_settings default_settings (flat_map settings_in stmts)

-- the gateways that a statement asks for
abbrev pub algs_in : Stmt → List (List ℕ)
algs_in (Stmt.Alg name span) = name.text ∷ []
algs_in _ = []

abbrev pub asks_icmp : List Stmt → Bool
asks_icmp stmts = list_any (bytes_eq (codes "icmp")) (flat_map algs_in stmts)
