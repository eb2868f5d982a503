-- What loading a configuration in place of the one before comes to, with the tables' files that it names.
use Rattle.std.specs.Prelude.{ℕ, Result, Ok, Err, List}
use Rattle.npf_types.specs.declared.limits.TheConstants.{MAX_TEXT_BYTES}
use Rattle.npf_types.specs.Stages.{Stage, ◌andthen◌, ◌told_by◌}
use Rattle.npf_faults.specs.declared.fault.ConfFault.{ConfFault}
use Rattle.npf_model.specs.declared.iface.Iface.{Iface}
use Rattle.npf_model.specs.Configuration.{Configuration}
use Rattle.npf_outside.specs.Files.{FilesMoment}
use Rattle.npf_config_reload.specs.Reloads.{TakesOver}
use Rattle.npf_ctl_messages.specs.declared.fault.CommandFault.{CommandFault}
use Rattle.npf_ctl_messages.specs.declared.fault.CommandFault.TheVariants.{Configuration as Refuses}
use Rattle.npf_ctl_input.specs.File.{ReadsFile}
use Rattle.npf_ctl_input.specs.Loads.{LoadsText}

-- a fault of the text of this file
abbrev pub told_in_file : List ℕ → ConfFault → CommandFault
told_in_file file fault = Refuses file fault

module _ (before after : FilesMoment) (ifaces : List Iface) (old : Configuration) (file : List ℕ) where
  -- the text of this file isn't loaded at all; or its configuration takes over what the one before has, or too much of it
  pub data ReloadsText (text : List ℕ) : Result Configuration CommandFault → Type 0 where
    unloaded : {fault : CommandFault} → LoadsText before after ifaces file text (Err fault) → ReloadsText text (Err fault)
    loaded : {result : Result Configuration CommandFault} → (TakesOver ifaces before.contents old text told_by told_in_file file) result → ReloadsText text result

  -- the configuration of this file, in place of the one before
  abbrev pub ReloadsFile : Stage Configuration CommandFault
  ReloadsFile = ReadsFile before after file MAX_TEXT_BYTES andthen ReloadsText
