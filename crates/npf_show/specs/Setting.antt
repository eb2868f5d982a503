-- Parameters and the gateway of ICMP: a line each, and none for what holds without a statement.
use Rattle.std.specs.Prelude.{ℕ, ◌==◌, Bool, true, false, not, if◌then◌else◌, List, [], ◌∷◌, ◌++◌, codes}
use Rattle.std.specs.List.{flat_map}
use Rattle.npf_model.specs.declared.settings.Choice.{Choice}
use Rattle.npf_model.specs.declared.settings.Parameter.{Parameter}
use Rattle.npf_model.specs.declared.settings.Settings.{Settings}
use Rattle.npf_model.specs.Settings.{choice_in, default_settings, parameter_name, parameter_of, parameters}
use Rattle.npf_show.specs.Piece.{Piece, Word, Number, Quoted, glued, spaced, line_end}

-- one parameter has the same value twice
abbrev pub has_same_value : Choice → Choice → Bool
has_same_value (Choice.Switch switch on) (Choice.Switch _ other) = if on then other else not other
has_same_value (Choice.Port bound port) (Choice.Port _ other) = port == other
has_same_value (Choice.Timeout timeout seconds) (Choice.Timeout _ other) = seconds == other
has_same_value _ _ = false

-- what is set to another value than it has without a statement
abbrev pub changed_setting : Settings → Parameter → List Choice
changed_setting settings parameter =
    let choice : Choice = choice_in settings parameter in
    if has_same_value choice (choice_in default_settings parameter) then [] else choice ∷ []

abbrev pub shown_settings : Settings → List Choice
shown_settings settings = flat_map (changed_setting settings) parameters

abbrev pub switch_text : Bool → List ℕ
switch_text true = codes "on"
switch_text false = codes "off"

abbrev pub value_piece : Choice → Piece
value_piece (Choice.Switch switch on) = Word (switch_text on)
value_piece (Choice.Port bound port) = Number port
value_piece (Choice.Timeout timeout seconds) = Number seconds

abbrev pub set_line : Choice → List Piece
set_line choice = glued (Word (codes "set")) ++ spaced (Word (parameter_name (parameter_of choice))) ++ spaced (value_piece choice) ++ line_end

abbrev pub alg_line : Bool → List Piece
alg_line true = glued (Word (codes "alg")) ++ spaced (Quoted (codes "icmp")) ++ line_end
alg_line false = []
