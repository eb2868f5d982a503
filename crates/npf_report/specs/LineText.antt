-- The line of a packet: its number, the interface and the direction, and its outcome.
-- READ 10 of docs/READING.md
use Rattle.std.specs.Prelude.{ℕ, List, ◌++◌, codes}
use Rattle.std.specs.Fmt.{decimal}
use Rattle.npf_types.specs.declared.direction.Dir.{Dir}
use Rattle.npf_types.specs.declared.direction.Dir.TheVariants.{In, Out}
use Rattle.npf_engine.specs.declared.outcome.Outcome.{Outcome}
use Rattle.npf_report.specs.OutcomeText.{outcome_text}

abbrev pub dir_text : Dir → List ℕ
dir_text In = codes " in "
dir_text Out = codes " out "

-- what stands between a packet's number and its outcome
abbrev pub crossed_text : List ℕ → Dir → List ℕ
crossed_text interface dir = codes " " ++ (interface ++ dir_text dir)

-- the line of the packet of this number
unfoldable pub line_text : ℕ → List ℕ → Dir → Outcome → List ℕ
line_text n interface dir outcome = decimal n ++ codes " " ++ interface ++ dir_text dir ++ outcome_text outcome ++ codes "\n"
