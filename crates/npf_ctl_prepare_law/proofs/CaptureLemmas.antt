-- The captures of a run are gathered in one way.
use Rattle.std.proofs.Common.{ℕ, Ok, Err, List, [], ◌∷◌, sym, ap, ◌∙◌}
use Rattle.npf_types.specs.declared.{direction.Dir.Dir, interface.IfId.IfId, limits.TheConstants.MAX_CAPTURE_BYTES, link.Link.Link}
use Rattle.npf_pcap.specs.{declared.{capture.Record.Record, fault.CaptureFault.CaptureFault}, CaptureLaw.{CapturesHaveNoFault, OneCapture, OneFault}}
use Rattle.npf_model.specs.declared.iface.Iface.{Iface}
use Rattle.npf_outside.specs.Files.{Tree}
use Rattle.npf_config_changes.{specs.ChangeLaws.HasOneResult, proofs.LawLemmas.{one_after, one_told}}
use Rattle.npf_ctl_script.specs.declared.script.ScriptLine.{ScriptLine}
use Rattle.npf_ctl_script.specs.declared.script.ScriptLine.TheVariants as Said
use Rattle.npf_ctl_messages.specs.declared.fault.CommandFault.TheVariants.{Capture}
use Rattle.npf_ctl_arrivals.specs.Arrivals.{Gathered, GathersCapture, ReadsCapture, refused, spelled}
use Rattle.npf_ctl_input.specs.{File.told_files, Source.{Source, Alone, Scripted}}
use Rattle.npf_ctl_prepare.specs.Captures.{GathersCaptures, GathersLine, ReadsCaptureFile, interface_id}
use Rattle.npf_ctl_prepare_law.proofs.InputLemmas.{one_file}

module _ (one_capture : OneCapture) (fine : CapturesHaveNoFault) (one_fault : OneFault) where
  one_reading : (file bytes : List ℕ) → HasOneResult (ReadsCapture file bytes)
  one_reading file bytes _ _ (spelled {link = a} {records = xs} is) (spelled {link = b} {records = ys} there) =
      let same = one_capture bytes a b xs ys is there in
      ap (λ (link : Link). Ok (link, xs)) same.0 ∙ ap (λ (records : List Record). Ok (b, records)) same.1
  one_reading file bytes _ _ (spelled {link = a} {records = xs} is) (refused {fault = f} there not) = absurd (not (fine bytes a xs f is there))
  one_reading file bytes _ _ (refused {fault = f} is not) (spelled {link = b} {records = ys} there) = absurd (not (fine bytes b ys f there is))
  one_reading file bytes _ _ (refused {fault = f} is not) (refused {fault = g} there other) =
      ap (λ (fault : CaptureFault). Err (Capture file fault)) (sym (one_fault bytes f g not other is there))

  one_gathering : (gathered : Gathered) (file : List ℕ) (ifid : IfId) (dir : Dir) (bytes : List ℕ) → HasOneResult (GathersCapture gathered file ifid dir bytes)
  one_gathering gathered file ifid dir bytes =
      one_after (ReadsCapture file bytes) _ (one_reading file bytes) (λ capture. one_after _ _ (one_after _ _ (one_told _) (λ _. one_told _)) (λ _. one_told _))

  module _ (tree : Tree) (source : Source) (ifaces : List Iface) where
    one_capture_file : (of : Source) (file : List ℕ) → HasOneResult (ReadsCaptureFile (told_files tree) (told_files tree) source ifaces of file)
    one_capture_file (Alone bytes) file = one_told (Ok bytes)
    one_capture_file (Scripted lines) file = one_file tree file MAX_CAPTURE_BYTES

    one_line : (line : ScriptLine) (gathered : Gathered) → HasOneResult (GathersLine (told_files tree) (told_files tree) source ifaces line gathered)
    one_line (Said.Capture name dir file) gathered =
        one_after (ReadsCaptureFile (told_files tree) (told_files tree) source ifaces source file) _ (one_capture_file source file)
        (λ bytes. one_gathering gathered file (interface_id ifaces name) dir bytes)
    one_line line gathered = one_told (Ok gathered)

    pub one_gathered : (lines : List ScriptLine) (gathered : Gathered) → HasOneResult (GathersCaptures (told_files tree) (told_files tree) source ifaces lines gathered)
    one_gathered [] gathered = one_told (Ok gathered)
    one_gathered (line ∷ lines) gathered =
        one_after (GathersLine (told_files tree) (told_files tree) source ifaces line gathered) _ (one_line line gathered) (λ more. one_gathered lines more)
