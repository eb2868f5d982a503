-- What the second file of a run is: a capture alone, which stands for a script that names it, or a script.
use Rattle.std.specs.Prelude.{◌≤◌, ◌<◌, ℕ, Option, Some, None, Result, Ok, Err, List, [], ◌∷◌, codes, length}
use Rattle.npf_types.specs.declared.direction.Dir.TheVariants.{In}
use Rattle.npf_types.specs.declared.limits.TheConstants.{MAX_TEXT_BYTES}
use Rattle.npf_types.specs.Named.{named}
use Rattle.npf_types.specs.Stages.{Stage, gives}
use Rattle.npf_pcap.specs.declared.format.Format.{Format}
use Rattle.npf_pcap.specs.Capture.{HasMagic}
use Rattle.npf_ctl_script.specs.declared.script.ScriptFault.TheVariants as Scripts
use Rattle.npf_ctl_script.specs.declared.script.ScriptLine.{ScriptLine}
use Rattle.npf_ctl_script.specs.declared.script.ScriptLine.TheVariants as Said
use Rattle.npf_ctl_script.specs.Lines.{IsScript, RefusesScript}
use Rattle.npf_ctl_messages.specs.declared.fault.CommandFault.{CommandFault}
use Rattle.npf_ctl_messages.specs.declared.fault.CommandFault.TheVariants.{Line, Long}
use Rattle.npf_ctl_messages.specs.declared.fault.LineFault.TheVariants.{BadLine}
use Rattle.npf_ctl_input.specs.declared.tap.NamedTap.{NamedTap}

pub data Source : Type 0 where
  -- the bytes of a capture
  Alone : List ℕ → Source
  -- the commands of a script, with the numbers of their lines
  Scripted : List (ℕ × ScriptLine) → Source

-- the bytes begin with a capture's magic number
abbrev pub BeginsAsCapture : List ℕ → Type 0
BeginsAsCapture bytes = (4 ≤ length bytes) × ((format : Format) × HasMagic format bytes)

-- where nothing is told of a tap, the bytes tell which of the two they are
pub data ReadsEither (file bytes : List ℕ) : Result Source CommandFault → Type 0 where
  alone : BeginsAsCapture bytes → ReadsEither file bytes (Ok (Alone bytes))
  longer : ¬ BeginsAsCapture bytes → MAX_TEXT_BYTES < length bytes → ReadsEither file bytes (Err (Long file MAX_TEXT_BYTES))
  scripted : {lines : List (ℕ × ScriptLine)} → ¬ BeginsAsCapture bytes → length bytes ≤ MAX_TEXT_BYTES → IsScript bytes lines →
      ReadsEither file bytes (Ok (Scripted lines))
  bad_line : {line : ℕ} → ¬ BeginsAsCapture bytes → length bytes ≤ MAX_TEXT_BYTES → RefusesScript bytes (Scripts.BadLine line) →
      ReadsEither file bytes (Err (Line file line BadLine))

-- where one is told, they are a capture's
abbrev pub ReadsSource : Option NamedTap → List ℕ → List ℕ → Stage Source CommandFault
ReadsSource None file bytes = ReadsEither file bytes
ReadsSource (Some tap) file bytes = gives (Alone bytes)

-- that of a capture alone: where none is told, its packets came in on the interface cap0
abbrev pub first_tap : NamedTap
first_tap = record { name = named (codes "cap0"); dir = In }

abbrev pub tap_of_capture : Option NamedTap → NamedTap
tap_of_capture None = first_tap
tap_of_capture (Some tap) = tap

-- the command that names a capture of this tap
abbrev pub line_of_tap : NamedTap → List ℕ → ScriptLine
line_of_tap tap file = Said.Capture tap.name tap.dir file

-- the commands of the second file
abbrev pub lines_of_source : Option NamedTap → List ℕ → Source → List (ℕ × ScriptLine)
lines_of_source tap file (Alone bytes) = (1, line_of_tap (tap_of_capture tap) file) ∷ []
lines_of_source tap file (Scripted lines) = lines
