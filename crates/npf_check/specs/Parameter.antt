-- What isn't built of the settings of npf.conf(5). `bpf.jit` stands with `on` or `off`: rules are compiled once either way. Fragments
-- are always joined, so `ip4.reassembly` and `ip6.reassembly` stand with `on` or 1 alone; and what is over is freed at the end of a
-- phase, so `gc.step` stands with any number. A parameter that has an effect stands with a value of its own; and the ports to draw from
-- have to be some: by the statements up to each that sets an end of them the least isn't above the greatest.
use Rattle.std.specs.Prelude.{ℕ, nat_lt, Bool, true, false, ◌&&◌, ◌||◌, ◌==◌, if◌then◌else◌, is_some, Option, Some, None, List, [], ◌∷◌, ◌++◌, codes}
use Rattle.std.specs.Str.{bytes_eq}
use Rattle.npf_faults.specs.First.{fault_if}
use Rattle.npf_faults.specs.declared.fault.ConfFault.{ConfFault}
use Rattle.npf_faults.specs.declared.fault.Fault.TheVariants.{Unbuilt}
use Rattle.npf_syntax.specs.declared.stmt.Setting.{Setting}
use Rattle.npf_syntax.specs.declared.stmt.Stmt.{Stmt}
use Rattle.npf_model.specs.declared.settings.Choice.{Choice}
use Rattle.npf_model.specs.declared.settings.Settings.{Settings}
use Rattle.npf_model.specs.Settings.{choice_by_number, choice_by_word, set_in, switch_word}

abbrev pub is_reassembly : List ℕ → Bool
is_reassembly name = bytes_eq name (codes "ip4.reassembly") || bytes_eq name (codes "ip6.reassembly")

-- `on` or `off`, but no number
abbrev pub is_switch_word : Setting → Bool
is_switch_word (Setting.Word word span) = is_some (switch_word word.text)
is_switch_word (Setting.Number number span) = false

abbrev pub says_on : Setting → Bool
says_on (Setting.Word word span) = bytes_eq word.text (codes "on")
says_on (Setting.Number number span) = number.value == 1

abbrev pub says_number : Setting → Bool
says_number (Setting.Word word span) = false
says_number (Setting.Number number span) = true

-- what is accepted without an effect
abbrev pub is_idle_setting : List ℕ → Setting → Bool
is_idle_setting name value =
    if bytes_eq name (codes "bpf.jit") then is_switch_word value
    else if is_reassembly name then says_on value
    else bytes_eq name (codes "gc.step") && says_number value

-- what a statement sets a parameter with an effect to, if the value is one of its own
abbrev pub chosen_by : Stmt → Option Choice
chosen_by (Stmt.Set name (Setting.Word word at) span) = choice_by_word name.text word.text
chosen_by (Stmt.Set name (Setting.Number number at) span) = choice_by_number name.text number.value
chosen_by _ = None

abbrev pub is_built_set : Stmt → Bool
is_built_set (Stmt.Set name value span) = is_idle_setting name.text value || is_some (chosen_by (Stmt.Set name value span))
is_built_set _ = true

-- settings behind a statement
abbrev pub set_chosen : Option Choice → Settings → Settings
set_chosen None settings = settings
set_chosen (Some choice) settings = set_in choice settings

abbrev pub set_by : Stmt → Settings → Settings
set_by stmt settings = set_chosen (chosen_by stmt) settings

-- a statement sets an end of the ports to draw from, behind which there is none
abbrev pub leaves_none : Option Choice → Settings → Bool
leaves_none (Some (Choice.Port bound port)) settings = nat_lt settings.max_port settings.min_port
leaves_none _ settings = false

-- a statement behind which the settings are these
abbrev pub range_fault : Settings → Stmt → List ConfFault
range_fault settings (Stmt.Set name value span) = fault_if (leaves_none (chosen_by (Stmt.Set name value span)) settings) span Unbuilt
range_fault settings _ = []

-- statements, the first of which finds these settings
abbrev pub range_faults : Settings → List Stmt → List ConfFault
range_faults settings [] = []
range_faults settings (stmt ∷ stmts) =
    let now : Settings = set_by stmt settings in
    range_fault now stmt ++ range_faults now stmts
