-- What follows the command of a line, a case for each form of the script's grammar (docs/npfctl.8, "Scripts").
use Rattle.std.specs.Prelude.{◌≡◌, ◌==◌, ◌-◌, ◌^◌, ◌≤◌, ℕ, Bool, IsTrue, Option, Some, None, List, [], take, drop, length, position, slice_index, codes}
use Rattle.std.specs.Str.{IsUtf8}
use Rattle.npf_types.specs.declared.direction.Dir.{Dir}
use Rattle.npf_types.specs.declared.name.Name.{Name}
use Rattle.npf_types.specs.Named.{named}
use Rattle.npf_types.specs.NameText.{is_name}
use Rattle.npf_table.specs.Line.{after_blanks, before_blanks}
use Rattle.npf_table.specs.PrefixText.{IsPrefixText}
use Rattle.npf_ctl_script.specs.declared.command.LineCommand.{LineCommand}
use Rattle.npf_ctl_script.specs.declared.script.ScriptLine.{ScriptLine}
use Rattle.npf_ctl_script.specs.declared.script.ScriptLine.TheVariants.{Capture, Phase, Packets, Reload, RuleAdd, RuleRem, RuleFlush, TableAdd, TableRem, Expire}
use Rattle.npf_ctl_script.specs.declared.change_word.Verb.{Verb}
use Rattle.npf_ctl_script.specs.declared.change_word.Verb.TheVariants.{Add, RemId, Rem, Flush}
use Rattle.npf_ctl_script.specs.Commands.{command_of, command_text, direction_text, verb_text}
use Rattle.npf_ctl_script.specs.Numbers.{IsNumberBelow, IsSeconds}
use Rattle.npf_ctl_script.specs.Words.{HasNoWord, behind_word, leading_word}

-- the word is this name
pub record IsNameWord (word : List ℕ) (name : Name) : Type 0 where
  pub proper : IsTrue (is_name word)
  pub value : name ≡ named word

abbrev pub is_quote : ℕ → Bool
is_quote byte = byte == 34

-- the text between its first and its last byte
abbrev pub inner : List ℕ → List ℕ
inner text = take (length text - 2) (drop 1 text)

-- the text begins and ends with a quote, and the file's name is what stands between: UTF-8 without a quote; it may be empty
pub record IsQuoted (text file : List ℕ) : Type 0 where
  pub long : 2 ≤ length text
  pub opens : slice_index text 0 ≡ 34
  pub closes : slice_index text (length text - 1) ≡ 34
  pub value : file ≡ inner text
  pub plain : position is_quote file ≡ None
  pub utf8 : IsUtf8 file

-- a quoted file name stands in the text, and nothing but blanks round it
abbrev pub IsFileName : List ℕ → List ℕ → Type 0
IsFileName text file = IsQuoted (before_blanks (after_blanks text)) file

-- how many packets a phase has, None for all that are left
abbrev pub IsPacketCount : List ℕ → Option ℕ → Type 0
IsPacketCount word (Some count) = IsNumberBelow (2 ^ 64) word count
IsPacketCount word None = word ≡ codes "rest"

-- the text is one word, which is read as x
pub record IsLast {X : Type 0} (Reads : List ℕ → X → Type 0) (text : List ℕ) (x : X) : Type 0 where
  pub word : Reads (leading_word text) x
  pub alone : HasNoWord (behind_word text)

-- what follows `capture`
pub record IsCaptureLine (text : List ℕ) (name : Name) (dir : Dir) (file : List ℕ) : Type 0 where
  pub interface : IsNameWord (leading_word text) name
  pub direction : leading_word (behind_word text) ≡ direction_text dir
  pub quoted : IsFileName (behind_word (behind_word text)) file

-- what follows `rule` or `table` begins with a name and what is done
pub record IsChange (text : List ℕ) (name : Name) (verb : Verb) : Type 0 where
  pub named : IsNameWord (leading_word text) name
  pub does : leading_word (behind_word text) ≡ verb_text verb

-- and what follows those two
abbrev pub behind_change : List ℕ → List ℕ
behind_change text = behind_word (behind_word text)

-- the text that follows a command is that of the line
abbrev pub HasArguments : List ℕ → ScriptLine → Type 0
HasArguments text (Capture name dir file) = IsCaptureLine text name dir file
HasArguments text Phase = HasNoWord text
HasArguments text (Packets count) = IsLast IsPacketCount text count
HasArguments text (Reload file) = IsFileName text file
HasArguments text (RuleAdd name rule) = IsChange text name Add × (rule ≡ after_blanks (behind_change text))
HasArguments text (RuleRem name id) = IsChange text name RemId × IsLast (IsNumberBelow (2 ^ 32)) (behind_change text) id
HasArguments text (RuleFlush name) = IsChange text name Flush × HasNoWord (behind_change text)
HasArguments text (TableAdd name prefix) = IsChange text name Add × IsLast IsPrefixText (behind_change text) prefix
HasArguments text (TableRem name prefix) = IsChange text name Rem × IsLast IsPrefixText (behind_change text) prefix
HasArguments text (Expire time) = IsLast IsSeconds text time

-- the line has the form of this command
pub record IsForm (line : List ℕ) (said : ScriptLine) : Type 0 where
  pub command : leading_word line ≡ command_text (command_of said)
  pub arguments : HasArguments (behind_word line) said

-- what a reader of a command's arguments answers: they, or that no line of this command has them
abbrev pub AnswersArguments : LineCommand → List ℕ → Option ScriptLine → Type 0
AnswersArguments command text None = (said : ScriptLine) → command_of said ≡ command → ¬ HasArguments text said
AnswersArguments command text (Some said) = (command_of said ≡ command) × HasArguments text said
