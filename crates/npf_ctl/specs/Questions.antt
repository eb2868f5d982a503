-- What a question of a configuration comes to.
use Rattle.std.specs.Prelude.{◌≡◌, ℕ, Bool, true, false, Option, Some, None, Result, Ok, Err, List}
use Rattle.npf_types.specs.declared.interface.IfId.{IfId}
use Rattle.npf_types.specs.declared.name.Name.{Name}
use Rattle.npf_model.specs.declared.iface.Iface.{Iface}
use Rattle.npf_model.specs.declared.rule.Rule.{Rule}
use Rattle.npf_model.specs.Configuration.{Configuration}
use Rattle.npf_model.specs.Numbering.{number_of_name}
use Rattle.npf_outside.specs.Files.{FilesMoment}
use Rattle.npf_ruleset.specs.Configuration.{configuration}
use Rattle.npf_ctl_asked.specs.Asked.{IsAskedAbout, RefusesAsked}
use Rattle.npf_ctl_input.specs.Interfaces.{ReadsInterfaces}
use Rattle.npf_ctl_input.specs.Loads.{LoadsAlone, LoadsFile}
use Rattle.npf_ctl_input.specs.Unless.{IfTold}
use Rattle.npf_ctl_words.specs.CommandLine.{given_text}
use Rattle.npf_ctl_explain.specs.Answer.{IsExplainText}
use Rattle.npf_ctl_lint.specs.Loaded.{AnswersLint, RefusesLint}
use Rattle.npf_ctl_messages.specs.declared.fault.CommandFault.{CommandFault}
use Rattle.npf_ctl_query.specs.QueryText.{IsClassText, IsStopFault}
use Rattle.npf_ctl_words.specs.declared.command.Invocation.{Invocation}
use Rattle.npf_ctl_words.specs.declared.command.CheckWords.{CheckWords}
use Rattle.npf_ctl_words.specs.declared.command.CompareWords.{CompareWords}
use Rattle.npf_ctl_words.specs.declared.command.Invocation.TheVariants.{Check, Compare, Explain, Lint, Query}
use Rattle.npf_ctl_words.specs.declared.command.LintWords.{LintWords}
use Rattle.npf_ctl_words.specs.declared.command.Load.{Load}
use Rattle.npf_judge.specs.declared.says.ClassSays.{ClassSays}
use Rattle.npf_judge.specs.declared.says.ClassSays.TheVariants.{Pass, Block, Both, Empty}
use Rattle.npf_ctl.specs.Checks.{AnswersCheck, RefusesCheck}
use Rattle.npf_ctl.specs.Comparisons.{AnswersComparison, RefusesComparison}
use Rattle.npf_ctl.specs.Commands.{load_of_explain, load_of_query}
use Rattle.npf_ctl.specs.declared.questions.Loaded.{Loaded}
use Rattle.npf_ctl.specs.declared.questions.ConfigQuestion.{ConfigQuestion}
use Rattle.npf_ctl.specs.declared.questions.TheConstants.{MAX_STEPS}
use Rattle.npf_ctl.specs.declared.questions.ConfigQuestion.TheVariants as Asked
use Rattle.npf_ctl.specs.declared.findings.Finding.{Finding}
use Rattle.npf_ctl.specs.declared.findings.Finding.TheVariants.{Nothing, Something}

-- the command that asks so
abbrev pub asking_command : ConfigQuestion → Invocation
asking_command (Asked.Explain words) = Explain words
asking_command (Asked.Query words) = Query words

abbrev pub loaded_of_question : ConfigQuestion → Load
loaded_of_question (Asked.Explain words) = load_of_explain words
loaded_of_question (Asked.Query words) = load_of_query words

-- the interface that a question names itself, and the text of its class
abbrev pub own_of : ConfigQuestion → Option Name
own_of (Asked.Explain words) = Some words.iface
own_of (Asked.Query words) = None

abbrev pub class_text_of : ConfigQuestion → List ℕ
class_text_of (Asked.Explain words) = words.class.now
class_text_of (Asked.Query words) = words.class.now

-- `query` looks for packets that don't pass, or for none
abbrev pub finding_of_class : ClassSays → Finding
finding_of_class Pass = Nothing
finding_of_class Block = Something
finding_of_class Both = Something
finding_of_class Empty = Something

-- `explain` looks for none: there is no packet that it could explain
abbrev pub finding_of_packet : Bool → Finding
finding_of_packet true = Nothing
finding_of_packet false = Something

-- `lint` looks for what does nothing
abbrev pub finding_of_lint : Bool → Finding
finding_of_lint true = Something
finding_of_lint false = Nothing

-- the number of an interface in a list
abbrev pub id_named : List Iface → Name → IfId
id_named ifaces name = record { 0 = number_of_name ifaces name }

-- the answer to what was read: by these interfaces the configuration and the class
abbrev pub AnswersAsked : List Iface → Configuration → Rule → ConfigQuestion → Finding → List ℕ → Type 0
AnswersAsked ifaces config class (Asked.Explain words) finding text =
    (is_there : Bool) × IsExplainText ifaces config class (id_named ifaces words.iface) words.dir is_there text × (finding ≡ finding_of_packet is_there)
AnswersAsked ifaces config class (Asked.Query words) finding text =
    (says : ClassSays) × IsClassText ifaces config class says text × (finding ≡ finding_of_class says)

-- the most steps that a question's search may take
abbrev pub steps_of : ConfigQuestion → ℕ
steps_of (Asked.Explain words) = MAX_STEPS
steps_of (Asked.Query words) = words.steps

-- what loading a configuration comes to, with the interfaces that are given with it; want of memory says nothing
abbrev pub LoadsBoth : FilesMoment → FilesMoment → Load → Result Loaded CommandFault → Type 0
LoadsBoth before after load (Ok loaded) =
    ReadsInterfaces before after (given_text load.ifaces) (Ok loaded.ifaces.list)
    × LoadsFile before after loaded.ifaces.list load.conf.now (Ok (configuration loaded.config))
LoadsBoth before after load (Err fault) = IfTold (λ why. LoadsAlone before after (given_text load.ifaces) load.conf.now (Err why)) fault

module _ (given : List Iface) (config : Configuration) where
  -- the text of the answer to a command that asks about a class
  pub record AnswersClass (command : Invocation) (finding : Finding) (text : List ℕ) : Type 0 where
    pub question : ConfigQuestion
    pub asks : command ≡ asking_command question
    pub ifaces : List Iface
    pub asked : Configuration
    pub class : Rule
    pub read : IsAskedAbout given config (own_of question) (class_text_of question) ifaces asked class
    pub answer : AnswersAsked ifaces asked class question finding text

  -- why there is no answer: the class is refused, or the search wants more steps than it may take
  pub data RefusesClass (command : Invocation) : CommandFault → Type 0 where
    class : (question : ConfigQuestion) {fault : CommandFault} → command ≡ asking_command question →
        RefusesAsked given config (own_of question) (class_text_of question) fault → RefusesClass command fault
    spent : (question : ConfigQuestion) {fault : CommandFault} → command ≡ asking_command question → IsStopFault (steps_of question) fault →
        RefusesClass command fault

module _ (before after : FilesMoment) (given : List Iface) (config : Configuration) (command : Invocation) where
  -- the text of the answer to a command that asks: about a class, about a file of expectations, about all of its rules, or about another configuration
  pub data AnswersQuestion (finding : Finding) (text : List ℕ) : Type 0 where
    class : AnswersClass given config command finding text → AnswersQuestion finding text
    check : (words : CheckWords) → command ≡ Check words → AnswersCheck given config words before after finding text → AnswersQuestion finding text
    lint : (words : LintWords) (found : Bool) → command ≡ Lint words → AnswersLint given config found text → finding ≡ finding_of_lint found →
        AnswersQuestion finding text
    compare : (words : CompareWords) → command ≡ Compare words → AnswersComparison given config words before after finding text →
        AnswersQuestion finding text

  -- why there is no answer
  pub data RefusesQuestion : CommandFault → Type 0 where
    class : {fault : CommandFault} → RefusesClass given config command fault → RefusesQuestion fault
    check : (words : CheckWords) {fault : CommandFault} → command ≡ Check words → RefusesCheck given config words before after fault → RefusesQuestion fault
    lint : (words : LintWords) {fault : CommandFault} → command ≡ Lint words → RefusesLint given config words.steps fault → RefusesQuestion fault
    compare : (words : CompareWords) {fault : CommandFault} → command ≡ Compare words → RefusesComparison given config words before after fault →
        RefusesQuestion fault
