-- What loading a configuration in place of another comes to.
use Rattle.std.specs.Prelude.{◌⊎◌, ℕ, Option, Result, Ok, Err, List}
use Rattle.npf_faults.specs.declared.fault.ConfFault.{ConfFault}
use Rattle.npf_model.specs.declared.iface.Iface.{Iface}
use Rattle.npf_model.specs.Configuration.{Configuration}
use Rattle.npf_bpf.specs.declared.insn.Insn.{Insn}
use Rattle.npf_outside.specs.Files.{FilesMoment, SameReadFaults, Tree as FileTree}
use Rattle.npf_ruleset.specs.Refusal.{IsWithinLimits}
use Rattle.npf_config.specs.FirstConfiguration.{IsFirstConfiguration}
use Rattle.npf_config.specs.declared.fault.LoadFault.{LoadFault}
use Rattle.npf_config.specs.declared.fault.LoadFault.TheVariants.{Conf, File, NoMemory}
use Rattle.npf_config.specs.Refusal.{RefusesConfiguration, RefusesTableFile}
use Rattle.npf_config_changes.specs.declared.fault.ChangeFault.TheVariants as Change
use Rattle.npf_config_changes.specs.Additions.{KeepsCounts}
use Rattle.npf_config_reload.specs.Taken.{taken_over}

module _ (ifaces : List Iface) (contents : Option FileTree) (old : Configuration) (text : List ℕ) where
  -- the text's own configuration, whose rules can be compiled
  pub record IsLoadedAlone (own : Configuration) : Type 0 where
    pub first : IsFirstConfiguration ifaces contents text own
    pub programs : List (List Insn)
    pub within : IsWithinLimits own.model programs

  -- the text's configuration with what it takes over; or, where both together pass a limit of rules, that fault, told at the text's end
  pub data TakesOver : Result Configuration ConfFault → Type 0 where
    taken : {own : Configuration} → (is : IsLoadedAlone own) → KeepsCounts is.first.tree.end (taken_over old own).model (Ok tt) → TakesOver (Ok (taken_over old own))
    passed : {own : Configuration} {fault : ConfFault} → (is : IsLoadedAlone own) → KeepsCounts is.first.tree.end (taken_over old own).model (Err (Change.Conf fault)) →
        TakesOver (Err fault)

-- why a configuration isn't loaded in place of another: it isn't loaded at all, or it takes over too much; want of memory says nothing of it
abbrev pub RefusesReload : List Iface → List ℕ → Configuration → FilesMoment → FilesMoment → LoadFault → Type 0
RefusesReload ifaces text old before now (Conf fault) =
    (RefusesConfiguration ifaces text before now fault ⊎ TakesOver ifaces before.contents old text (Err fault)) × SameReadFaults before now
RefusesReload ifaces text old before now (File span name fault) = RefusesTableFile ifaces text before now span name fault
RefusesReload ifaces text old before now NoMemory = Unit {0}
