-- What `compare` comes to.
use Rattle.std.specs.Prelude.{◌≡◌, ℕ, Bool, true, false, Ok, Err, List}
use Rattle.npf_model.specs.declared.iface.Iface.{Iface}
use Rattle.npf_model.specs.Configuration.{Configuration}
use Rattle.npf_outside.specs.Files.{FilesMoment}
use Rattle.npf_ctl_compare.specs.Loaded.{AnswersCompare, RefusesCompare}
use Rattle.npf_ctl_input.specs.Loads.{LoadsFile}
use Rattle.npf_ctl_messages.specs.declared.fault.CommandFault.{CommandFault}
use Rattle.npf_ctl_words.specs.declared.command.CompareWords.{CompareWords}
use Rattle.npf_ctl.specs.declared.findings.Finding.{Finding}
use Rattle.npf_ctl.specs.declared.findings.Finding.TheVariants.{Nothing, Something}

-- `compare` looks for differences
abbrev pub finding_of_same : Bool → Finding
finding_of_same true = Nothing
finding_of_same false = Something

module _ (given : List Iface) (config : Configuration) (words : CompareWords) (before after : FilesMoment) where
  -- the text is that of the old configuration and of the one that the words name as the new one
  pub record AnswersComparison (finding : Finding) (text : List ℕ) : Type 0 where
    pub new : Configuration
    pub loads : LoadsFile before after given words.new.now (Ok new)
    pub same : Bool
    pub told : AnswersCompare given config new same text
    pub found : finding ≡ finding_of_same same

  -- why there is none: the new configuration isn't loaded, or the two aren't compared
  pub data RefusesComparison : CommandFault → Type 0 where
    unloaded : {fault : CommandFault} → LoadsFile before after given words.new.now (Err fault) → RefusesComparison fault
    refused : {new : Configuration} {fault : CommandFault} → LoadsFile before after given words.new.now (Ok new) →
        RefusesCompare given config new words.steps fault → RefusesComparison fault
