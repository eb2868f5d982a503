-- What `check` comes to.
use Rattle.std.specs.Prelude.{◌≡◌, ◌==◌, ℕ, if◌then◌else◌, Ok, Err, List}
use Rattle.npf_types.specs.declared.limits.TheConstants.{MAX_TEXT_BYTES}
use Rattle.npf_model.specs.declared.iface.Iface.{Iface}
use Rattle.npf_model.specs.Configuration.{Configuration}
use Rattle.npf_outside.specs.Files.{FilesMoment}
use Rattle.npf_ctl_check.specs.declared.expectation.Expectation.{Expectation}
use Rattle.npf_ctl_check.specs.AskedAbout.{AreAskedAbout, RefusesExpectations}
use Rattle.npf_ctl_check.specs.CheckText.{IsCheckText}
use Rattle.npf_ctl_input.specs.File.{ReadsFile}
use Rattle.npf_ctl_messages.specs.declared.fault.CommandFault.{CommandFault}
use Rattle.npf_ctl_query.specs.QueryText.{IsStopFault}
use Rattle.npf_ctl_words.specs.declared.command.CheckWords.{CheckWords}
use Rattle.npf_ctl.specs.declared.findings.Finding.{Finding}
use Rattle.npf_ctl.specs.declared.findings.Finding.TheVariants.{Nothing, Something}

-- `check` looks for expectations that aren't met
abbrev pub finding_of_count : ℕ → Finding
finding_of_count failed = if failed == 0 then Nothing else Something

module _ (given : List Iface) (config : Configuration) (words : CheckWords) where
  -- the answer to a text of expectations: which of them aren't met, by the configuration and the interfaces that they are about
  pub record AnswersExpectationText (bytes : List ℕ) (finding : Finding) (text : List ℕ) : Type 0 where
    pub ifaces : List Iface
    pub asked : Configuration
    pub expectations : List Expectation
    pub failed : ℕ
    pub read : AreAskedAbout bytes given config ifaces asked expectations
    pub told : IsCheckText words.expectations.now ifaces asked expectations failed text
    pub found : finding ≡ finding_of_count failed

  -- why there is none: the text is refused, or the searches want more steps than they may take
  pub data RefusesExpectationText (bytes : List ℕ) : CommandFault → Type 0 where
    read : {fault : CommandFault} → RefusesExpectations words.expectations.now bytes given config fault → RefusesExpectationText bytes fault
    spent : {fault : CommandFault} → IsStopFault words.steps fault → RefusesExpectationText bytes fault

  module _ (before after : FilesMoment) where
    -- the answer to the file that the words name
    pub record AnswersCheck (finding : Finding) (text : List ℕ) : Type 0 where
      pub bytes : List ℕ
      pub reads : ReadsFile before after words.expectations.now MAX_TEXT_BYTES (Ok bytes)
      pub answers : AnswersExpectationText bytes finding text

    -- why there is none: it can't be read, or what it has is refused
    pub data RefusesCheck : CommandFault → Type 0 where
      unread : {fault : CommandFault} → ReadsFile before after words.expectations.now MAX_TEXT_BYTES (Err fault) → RefusesCheck fault
      refused : {bytes : List ℕ} {fault : CommandFault} → ReadsFile before after words.expectations.now MAX_TEXT_BYTES (Ok bytes) → RefusesExpectationText bytes fault →
          RefusesCheck fault
