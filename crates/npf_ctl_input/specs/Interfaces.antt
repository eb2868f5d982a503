-- The interfaces that are given to a command: those of a file, or none.
use Rattle.std.specs.Prelude.{ℕ, Option, Some, None, Result, Ok, Err, List, []}
use Rattle.npf_types.specs.declared.limits.TheConstants.{MAX_TEXT_BYTES}
use Rattle.npf_types.specs.Stages.{Stage, ◌andthen◌, gives}
use Rattle.npf_faults.specs.declared.fault.ConfFault.{ConfFault}
use Rattle.npf_faults.specs.declared.fault.Refused.TheVariants.{Fault as ARefusal}
use Rattle.npf_model.specs.declared.iface.Iface.{Iface}
use Rattle.npf_outside.specs.Files.{FilesMoment}
use Rattle.npf_expand_interfaces.specs.IfaceFile.{IsIfaceFile, RefusesIfaces}
use Rattle.npf_ctl_messages.specs.declared.fault.CommandFault.{CommandFault}
use Rattle.npf_ctl_messages.specs.declared.fault.CommandFault.TheVariants.{Configuration}
use Rattle.npf_ctl_input.specs.File.{ReadsFile}

pub data NamesInterfaces (file text : List ℕ) : Result (List Iface) CommandFault → Type 0 where
  named : {ifaces : List Iface} → IsIfaceFile text ifaces → NamesInterfaces file text (Ok ifaces)
  refused : {fault : ConfFault} → RefusesIfaces text (ARefusal fault) → NamesInterfaces file text (Err (Configuration file fault))

abbrev pub ReadsInterfaces : FilesMoment → FilesMoment → Option (List ℕ) → Stage (List Iface) CommandFault
ReadsInterfaces before after None = gives []
ReadsInterfaces before after (Some file) = ReadsFile before after file MAX_TEXT_BYTES andthen NamesInterfaces file
