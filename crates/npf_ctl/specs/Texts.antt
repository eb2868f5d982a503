-- The text that each command puts on the output.
use Rattle.std.specs.Prelude.{◌≡◌, ℕ, ◌+◌, Some, None, Ok, List, [], ◌∷◌, ◌++◌, codes, length}
use Rattle.std.specs.Fmt.{decimal}
use Rattle.std.specs.List.{flat_map}
use Rattle.npf_bpf.specs.declared.insn.Insn.{Insn}
use Rattle.npf_engine.specs.declared.outcome.Outcome.{Outcome}
use Rattle.npf_outside.specs.Files.{Tree}
use Rattle.npf_ctl_input.specs.File.{told_files}
use Rattle.npf_ctl_input.specs.Interfaces.{ReadsInterfaces}
use Rattle.npf_ctl_input.specs.Loads.{LoadsAlone, LoadsFile}
use Rattle.npf_ctl_prepare.specs.Prepares.{RunPlan}
use Rattle.npf_model.specs.declared.iface.Iface.{Iface}
use Rattle.npf_model.specs.declared.model.Model.{Model}
use Rattle.npf_model.specs.Configuration.{Configuration}
use Rattle.npf_model.specs.Verdict.{all_rules}
use Rattle.npf_report.specs.TotalText.{total_text}
use Rattle.npf_ctl_output.specs.Report.{report_text}
use Rattle.npf_ruleset.specs.Refusal.{IsWithinLimits}
use Rattle.npf_traffic.specs.declared.packet.Packet.{Packet}
use Rattle.npf_traffic.specs.declared.phase.Spread.TheVariants.{Rr}
use Rattle.npf_show.specs.Piece.{spelled}
use Rattle.npf_show.specs.Model.{model_pieces}
use Rattle.npf_ctl_words.specs.declared.command.Invocation.{Invocation}
use Rattle.npf_ctl_words.specs.declared.command.Invocation.TheVariants as Words
use Rattle.npf_ctl_words.specs.declared.command.Load.{Load}
use Rattle.npf_ctl_words.specs.declared.command.RunWords.{RunWords}
use Rattle.npf_ctl_words.specs.CommandLine.{given_text}
use Rattle.npf_ctl.specs.Questions.{AnswersQuestion}
use Rattle.npf_ctl.specs.Commands.{loaded_by}
use Rattle.npf_ctl.specs.declared.findings.Finding.{Finding}
use Rattle.npf_ctl.specs.declared.findings.Finding.TheVariants.{Nothing}
use Rattle.npf_ctl.specs.Generated.{HoldsWorkload, generated_names}
use Rattle.npf_ctl.specs.Run.{Moment, PlaysRun, PlaysWords}

-- how many rules a configuration has
abbrev pub valid_text : Model → List ℕ
valid_text model = codes "valid " ++ (decimal (length (all_rules model.groups)) ++ codes " rules\n")

abbrev pub insn_text : Insn → List ℕ
insn_text insn =
    decimal insn.code ++ (codes " " ++ (decimal insn.jt ++ (codes " " ++ (decimal insn.jf ++ (codes " " ++ (decimal insn.k ++ codes "\n"))))))

-- the program of a rule of this number: how many instructions it has, and each of them
abbrev pub program_text : ℕ → List Insn → List ℕ
program_text number insns = codes "rule " ++ (decimal number ++ (codes "\n" ++ (decimal (length insns) ++ (codes "\n" ++ flat_map insn_text insns))))

-- the programs of rules that are numbered from n on
abbrev pub programs_text : ℕ → List (List Insn) → List ℕ
programs_text n [] = []
programs_text n (insns ∷ programs) = program_text n insns ++ programs_text (n + 1) programs

-- the configuration of a command's words, as the files say it from the one moment to the other; the table of connections is asked nothing
pub record IsLoadedFor (before after : Moment) (load : Load) (config : Configuration) : Type 0 where
  pub loads : LoadsAlone before.files after.files (given_text load.ifaces) load.conf.now (Ok config)
  pub idle : after.pass ≡ before.pass

-- the same with the interfaces that were read
pub record IsAskedOf (before after : Moment) (load : Load) (given : List Iface) (config : Configuration) : Type 0 where
  pub reads : ReadsInterfaces before.files after.files (given_text load.ifaces) (Ok given)
  pub loads : LoadsFile before.files after.files given load.conf.now (Ok config)
  pub idle : after.pass ≡ before.pass

-- the text of a command, and whether it says what a question looks for
pub data TextOf (before after : Moment) : Invocation → Finding → List ℕ → Type 0 where
  report : {run : RunWords} {plan : RunPlan} {outputs : List Packet} {outcomes : List Outcome} → PlaysWords run before after plan outputs outcomes →
      TextOf before after (Words.Run run) Nothing (report_text plan.ifaces plan.packets outcomes)
  count : {load : Load} {config : Configuration} → IsLoadedFor before after load config → TextOf before after (Words.Validate load) Nothing (valid_text config.model)
  model : {load : Load} {config : Configuration} → IsLoadedFor before after load config →
      TextOf before after (Words.Show load) Nothing (spelled (model_pieces config.model))
  sound : {load : Load} {config : Configuration} → IsLoadedFor before after load config → TextOf before after (Words.Why load) Nothing []
  all_sound : {load : Load} {config : Configuration} → IsLoadedFor before after load config → TextOf before after (Words.WhyAll load) Nothing []
  programs : {load : Load} {config : Configuration} {programs : List (List Insn)} → IsLoadedFor before after load config →
      IsWithinLimits config.model programs → TextOf before after (Words.Debug load) Nothing (programs_text 1 programs)
  total : {number : ℕ} {tree : Tree} {plan : RunPlan} {outputs : List Packet} {outcomes : List Outcome} → HoldsWorkload number tree →
      PlaysRun generated_names None 1 Rr (told_files tree) (told_files tree) before.pass after.pass plan outputs outcomes →
      TextOf before after (Words.Gen number) Nothing (total_text outcomes)
  answer : {command : Invocation} {load : Load} {given : List Iface} {config : Configuration} {finding : Finding} {text : List ℕ} →
      loaded_by command ≡ Some load → IsAskedOf before after load given config → AnswersQuestion before.files after.files given config command finding text →
      TextOf before after command finding text
