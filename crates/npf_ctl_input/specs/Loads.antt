-- What loading a configuration comes to, with the tables' files that it names.
use Rattle.std.specs.Prelude.{ℕ, Option, Result, Ok, Err, List}
use Rattle.npf_types.specs.declared.limits.TheConstants.{MAX_TEXT_BYTES}
use Rattle.npf_types.specs.declared.span.Span.{Span}
use Rattle.npf_types.specs.Stages.{Stage, ◌andthen◌}
use Rattle.npf_bpf.specs.declared.insn.Insn.{Insn}
use Rattle.npf_faults.specs.declared.fault.ConfFault.{ConfFault}
use Rattle.npf_model.specs.declared.iface.Iface.{Iface}
use Rattle.npf_model.specs.Configuration.{Configuration}
use Rattle.npf_outside.specs.declared.files.FileFault.TheVariants.{Failed, Long as TooLong, NoMemory}
use Rattle.npf_outside.specs.Files.{FilesMoment}
use Rattle.npf_ruleset.specs.Refusal.{IsWithinLimits}
use Rattle.npf_config.specs.FirstConfiguration.{IsFirstConfiguration}
use Rattle.npf_config.specs.declared.fault.LoadFault.{LoadFault}
use Rattle.npf_config.specs.declared.fault.LoadFault.TheVariants as Load
use Rattle.npf_config.specs.Refusal.{RefusesConfiguration, RefusesTableFile}
use Rattle.npf_ctl_messages.specs.declared.fault.CommandFault.{CommandFault}
use Rattle.npf_ctl_messages.specs.declared.fault.CommandFault.TheVariants.{Configuration as Refuses, Long, NoMemory as OutOfMemory, Unread}
use Rattle.npf_ctl_input.specs.File.{ReadsFile}
use Rattle.npf_ctl_input.specs.Interfaces.{ReadsInterfaces}

-- how a fault of the configuration of this file is told: one of its text with this file, one of a table's file with that one
abbrev pub told_load : List ℕ → LoadFault → CommandFault
told_load file (Load.Conf fault) = Refuses file fault
told_load file (Load.File span name Failed) = Unread name
told_load file (Load.File span name TooLong) = Long name MAX_TEXT_BYTES
told_load file (Load.File span name NoMemory) = OutOfMemory
told_load file Load.NoMemory = OutOfMemory

module _ (before after : FilesMoment) where
  -- the text of this file means a configuration whose rules can be compiled; or it is refused; or one of its tables' files isn't read, or
  -- is longer than a text may be
  pub data LoadsText (ifaces : List Iface) (file text : List ℕ) : Result Configuration CommandFault → Type 0 where
    loaded : {config : Configuration} {programs : List (List Insn)} → IsFirstConfiguration ifaces before.contents text config →
        IsWithinLimits config.model programs → LoadsText ifaces file text (Ok config)
    refused : {fault : ConfFault} → RefusesConfiguration ifaces text before after fault → LoadsText ifaces file text (Err (Refuses file fault))
    unread : {span : Span} {name : List ℕ} → RefusesTableFile ifaces text before after span name Failed → LoadsText ifaces file text (Err (Unread name))
    longer : {span : Span} {name : List ℕ} → RefusesTableFile ifaces text before after span name TooLong →
        LoadsText ifaces file text (Err (Long name MAX_TEXT_BYTES))

  -- the configuration of this file
  abbrev pub LoadsFile : List Iface → List ℕ → Stage Configuration CommandFault
  LoadsFile ifaces file = ReadsFile before after file MAX_TEXT_BYTES andthen LoadsText ifaces file

  -- the configuration of this file, with the interfaces of that one
  abbrev pub LoadsAlone : Option (List ℕ) → List ℕ → Stage Configuration CommandFault
  LoadsAlone ifaces conf = ReadsInterfaces before after ifaces andthen λ given. LoadsFile given conf
