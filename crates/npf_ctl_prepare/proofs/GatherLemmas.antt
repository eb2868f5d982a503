-- The packets of a run's captures, one line after another.
use Rattle.std.proofs.Common.{◌≡◌, ◌≢◌, ℕ, Result, Ok, Err, OnOk, IfErr, List, [], ◌∷◌, length, get_or, refl, subst, arith}
use Rattle.npf_types.specs.{declared.{direction.Dir.Dir, interface.IfId.IfId, limits.TheConstants.MAX_CAPTURE_BYTES, name.Name.Name}, Stages.{stops, goes_on}}
use Rattle.npf_model.specs.declared.iface.Iface.{Iface}
use Rattle.npf_outside.specs.Files.{FilesMoment, SameReadFaults}
use Rattle.npf_config.{specs.Reading.OnlyReads, proofs.TableLemmas.no_reads}
use Rattle.npf_ctl_script.specs.declared.script.ScriptLine.{ScriptLine, TheVariants.Capture}
use Rattle.npf_ctl_schedule.specs.Schedule.{unnumbered}
use Rattle.npf_ctl_arrivals.specs.{declared.arrivals.Arrivals.Arrivals, Arrivals.{Gathered, GathersCapture, none_gathered}, Gathering.gathered_so_far}
use Rattle.npf_ctl_messages.specs.declared.fault.CommandFault.{CommandFault, TheVariants.NoMemory}
use Rattle.npf_ctl_input.specs.{Around.Around, File.ReadsFile, Source.{Source, Scripted}, Unless.{IfTold, UnlessMemory}}
use Rattle.npf_ctl_input.proofs.{AroundLemmas.{around_first, around_next}, UnlessLemmas.{unless_lasts, told_lasts}}
use Rattle.npf_ctl_prepare.specs.Captures.{GathersCaptures, GathersLine, ReadsCaptureFile, interface_id}
use Rattle.npf_ctl_prepare.proofs.{AroundLemmas.{faultless_none, faultless_on, reads_on}, StageLemmas.told_unless}

module _ (source : Source) (ifaces : List Iface) (lines : List (ℕ × ScriptLine)) (first now : FilesMoment) where
  -- the lines in front of the rest were followed
  pub record GatheredSoFar (rest : List (ℕ × ScriptLine)) (gathered : Gathered) : Type 0 where
    pub comes : (before after : FilesMoment) → Around before first now after → (result : Result Gathered CommandFault) →
        GathersCaptures before after source ifaces (unnumbered rest) gathered result →
        GathersCaptures before after source ifaces (unnumbered lines) none_gathered result
    pub reads : OnlyReads first now
    pub faultless : SameReadFaults first now

module _ (source : Source) (ifaces : List Iface) (lines : List (ℕ × ScriptLine)) (first now : FilesMoment) where
  module _ (line : ℕ × ScriptLine) (rest : List (ℕ × ScriptLine)) (gathered : Gathered)
      (so_far : GatheredSoFar source ifaces lines first now (line ∷ rest) gathered) (next : FilesMoment) (reads : OnlyReads now next) where
    module _ (more : Gathered)
        (comes : (before after : FilesMoment) → Around before now next after → GathersLine before after source ifaces line.1 gathered (Ok more)) where
      pub gathered_more : SameReadFaults now next → GatheredSoFar source ifaces lines first next rest more
      gathered_more faultless = record {
        comes = λ before after around result then_comes.
            so_far.comes before after (around_first before first now next after around reads) result
            (goes_on (comes before after (around_next before first now next after around so_far.reads)) then_comes);
        reads = reads_on first now next so_far.reads reads;
        faultless = faultless_on first now next so_far.faultless faultless;
      }

    pub gathering_stops : (fault : CommandFault) →
        ((before after : FilesMoment) → Around before now next after → IfTold (λ other. GathersLine before after source ifaces line.1 gathered (Err other)) fault) →
        (before after : FilesMoment) → Around before first next after →
        IfTold (λ other. GathersCaptures before after source ifaces (unnumbered lines) none_gathered (Err other)) fault
    gathering_stops fault comes before after around =
        told_lasts (λ other. GathersLine before after source ifaces line.1 gathered (Err other))
        (λ other. GathersCaptures before after source ifaces (unnumbered lines) none_gathered (Err other))
        (λ other is. so_far.comes before after (around_first before first now next after around reads) (Err other) (stops is)) fault
        (comes before after (around_next before first now next after around so_far.reads))

module _ (source : Source) (ifaces : List Iface) (lines : List (ℕ × ScriptLine)) (first : FilesMoment) where
  pub gathered_none : GatheredSoFar source ifaces lines first first lines none_gathered
  gathered_none = record { comes = λ before after around result is. is; reads = no_reads first; faultless = faultless_none first }

  pub all_gathered : (now : FilesMoment) (gathered : Gathered) → GatheredSoFar source ifaces lines first now [] gathered → (before after : FilesMoment) →
      Around before first now after → GathersCaptures before after source ifaces (unnumbered lines) none_gathered (Ok gathered)
  all_gathered now gathered so_far before after around = so_far.comes before after around (Ok gathered) refl

-- the capture of a line is gathered, whose file has these bytes
module _ (before after : FilesMoment) (source : Source) (ifaces : List Iface) (name : Name) (dir : Dir) (file : List ℕ) (gathered more : Gathered) (bytes : List ℕ)
    (reads : ReadsCaptureFile before after source ifaces source file (Ok bytes)) (said : List ℕ) (same_file : said ≡ file)
    (id : IfId) (same_id : id ≡ interface_id ifaces name) where
  captured : (result : Result Gathered CommandFault) → GathersCapture gathered said id dir bytes result → GathersCapture gathered file (interface_id ifaces name) dir bytes result
  captured result is =
      subst (λ f. GathersCapture gathered f (interface_id ifaces name) dir bytes result) same_file (subst (λ i. GathersCapture gathered said i dir bytes result) same_id is)

  pub line_done : (answer : Result (Unit {0}) CommandFault) → OnOk answer (GathersCapture gathered said id dir bytes (Ok more)) →
      IfErr answer (λ fault. fault ≢ NoMemory → GathersCapture gathered said id dir bytes (Err fault)) →
      UnlessMemory (λ _. more) answer (GathersLine before after source ifaces (Capture name dir file) gathered)
  line_done (Ok _) done refused = goes_on reads (captured (Ok more) done)
  line_done (Err fault) done refused =
      told_unless (λ other. GathersLine before after source ifaces (Capture name dir file) gathered (Err other)) fault (λ real. goes_on reads (captured (Err fault) (refused real)))

  -- the same where nothing was gathered before
  pub first_done : gathered ≡ none_gathered → (answer : Result (Unit {0}) CommandFault) → OnOk answer (GathersCapture gathered said id dir bytes (Ok more)) →
      IfErr answer (λ fault. fault ≢ NoMemory → GathersCapture gathered said id dir bytes (Err fault)) →
      UnlessMemory (λ _. more) answer (GathersLine before after source ifaces (Capture name dir file) none_gathered)
  first_done none answer done refused =
      subst (λ (old : Gathered). UnlessMemory (λ _. more) answer (GathersLine before after source ifaces (Capture name dir file) old)) none (line_done answer done refused)

-- where there is one line, what it comes to is what all come to
module _ (before after : FilesMoment) (source : Source) (ifaces : List Iface) where
  one_gathered : (line : ScriptLine) (gathered : Gathered) (result : Result Gathered CommandFault) →
      GathersLine before after source ifaces line gathered result → GathersCaptures before after source ifaces (line ∷ []) gathered result
  one_gathered line gathered (Ok more) is = goes_on is refl
  one_gathered line gathered (Err fault) is = stops is

  pub only_gathered : (lines : List (ℕ × ScriptLine)) (spare : ℕ × ScriptLine) → length lines ≡ 1 → (answer : Result Arrivals CommandFault) →
      UnlessMemory gathered_so_far answer (GathersLine before after source ifaces (get_or lines 0 spare).1 none_gathered) →
      UnlessMemory gathered_so_far answer (GathersCaptures before after source ifaces (unnumbered lines) none_gathered)
  only_gathered [] spare one answer comes = absurd (omega arith)
  only_gathered (line ∷ []) spare one answer comes =
      unless_lasts gathered_so_far (GathersLine before after source ifaces line.1 none_gathered) (GathersCaptures before after source ifaces (line.1 ∷ []) none_gathered)
      (one_gathered line.1 none_gathered) answer comes
  only_gathered (line ∷ other ∷ lines) spare one answer comes = absurd (omega arith)

-- the file of the line's capture isn't read
pub line_unread :
    (before after : FilesMoment) (lines : List (ℕ × ScriptLine)) (ifaces : List Iface) (name : Name) (dir : Dir) (file : List ℕ) (gathered : Gathered) (fault : CommandFault) →
    IfTold (λ other. ReadsFile before after file MAX_CAPTURE_BYTES (Err other)) fault →
    IfTold (λ other. GathersLine before after (Scripted lines) ifaces (Capture name dir file) gathered (Err other)) fault
line_unread before after lines ifaces name dir file gathered fault is =
    told_lasts (λ other. ReadsFile before after file MAX_CAPTURE_BYTES (Err other))
    (λ other. GathersLine before after (Scripted lines) ifaces (Capture name dir file) gathered (Err other)) (λ other unread. stops unread) fault is
