-- The rules that a script adds are written by short texts.
use Rattle.std.specs.Prelude.{◌≤◌, All, length}
use Rattle.npf_types.specs.declared.limits.TheConstants.{MAX_TEXT_BYTES}
use Rattle.npf_ctl_script.specs.declared.script.ScriptLine.{ScriptLine}
use Rattle.npf_ctl_script.specs.declared.script.ScriptLine.TheVariants.{RuleAdd}
use Rattle.npf_ctl_input.specs.Source.{Source, Alone, Scripted}

-- a rule that the line adds is no longer than a text may be
abbrev pub AddsShortRule : ScriptLine → Type 0
AddsShortRule (RuleAdd name text) = length text ≤ MAX_TEXT_BYTES
AddsShortRule _ = Unit {0}

-- and so it is on each line of a script
abbrev pub HasShortRules : Source → Type 0
HasShortRules (Alone bytes) = Unit {0}
HasShortRules (Scripted lines) = All (λ line. AddsShortRule line.1) lines
