-- What follows of what a script is.
use Rattle.std.specs.Prelude.{◌≡◌, ℕ, List}
use Rattle.npf_ctl_script.specs.declared.script.ScriptLine.{ScriptLine}
use Rattle.npf_ctl_script.specs.Lines.{IsFirstBadScriptLine, IsScript}

-- a text reads as one script at most
abbrev pub OneScript : Type 0
OneScript = (text : List ℕ) (read other : List (ℕ × ScriptLine)) → IsScript text read → IsScript text other → read ≡ other

-- a text that reads as a script has no first bad line
abbrev pub NoScriptIsRefused : Type 0
NoScriptIsRefused = (text : List ℕ) (read : List (ℕ × ScriptLine)) (number : ℕ) → IsScript text read → ¬ IsFirstBadScriptLine text number
