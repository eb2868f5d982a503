-- The captures of a run, in the order of their lines.
use Rattle.std.specs.Prelude.{ℕ, List, [], ◌∷◌}
use Rattle.npf_types.specs.declared.interface.IfId.{IfId}
use Rattle.npf_types.specs.declared.limits.TheConstants.{MAX_CAPTURE_BYTES}
use Rattle.npf_types.specs.declared.name.Name.{Name}
use Rattle.npf_types.specs.Stages.{Stage, ◌andthen◌, gives}
use Rattle.npf_model.specs.declared.iface.Iface.{Iface}
use Rattle.npf_model.specs.Numbering.{number_of_name}
use Rattle.npf_outside.specs.Files.{FilesMoment}
use Rattle.npf_ctl_script.specs.declared.script.ScriptLine.{ScriptLine}
use Rattle.npf_ctl_script.specs.declared.script.ScriptLine.TheVariants as Said
use Rattle.npf_ctl_arrivals.specs.Arrivals.{Gathered, GathersCapture}
use Rattle.npf_ctl_messages.specs.declared.fault.CommandFault.{CommandFault}
use Rattle.npf_ctl_input.specs.File.{ReadsFile}
use Rattle.npf_ctl_input.specs.Source.{Source, Alone, Scripted}

-- the number of an interface of the run
abbrev pub interface_id : List Iface → Name → IfId
interface_id ifaces name = record { 0 = number_of_name ifaces name }

module _ (before after : FilesMoment) (source : Source) (ifaces : List Iface) where
  -- the bytes of a capture's file: those of a capture alone were read already
  abbrev pub ReadsCaptureFile : Source → List ℕ → Stage (List ℕ) CommandFault
  ReadsCaptureFile (Alone bytes) file = gives bytes
  ReadsCaptureFile (Scripted lines) file = ReadsFile before after file MAX_CAPTURE_BYTES

  -- the capture that a line names is gathered with the others
  abbrev pub GathersLine : ScriptLine → Gathered → Stage Gathered CommandFault
  GathersLine (Said.Capture name dir file) gathered =
      ReadsCaptureFile source file andthen λ bytes. GathersCapture gathered file (interface_id ifaces name) dir bytes
  GathersLine _ gathered = gives gathered

  -- the captures that these lines name, one after another
  abbrev pub GathersCaptures : List ScriptLine → Gathered → Stage Gathered CommandFault
  GathersCaptures [] gathered = gives gathered
  GathersCaptures (line ∷ lines) gathered = GathersLine line gathered andthen λ more. GathersCaptures lines more
