-- Commands that ask something of a configuration, and those that ask nothing.
use Rattle.std.proofs.{Common.{◌≡◌, ◌∙◌, ap, ℕ, false, true, IfErr, List, Result, Ok, Err, refl, sym}, lemmas.Bool.false≢true}
use Rattle.npf_model.specs.{Configuration.Configuration, declared.iface.Iface.Iface}
use Rattle.npf_outside.specs.Files.{FilesMoment}
use Rattle.npf_ctl_asked.specs.Asked.{RefusesAsked}
use Rattle.npf_ctl_messages.specs.declared.fault.CommandFault.{CommandFault}
use Rattle.npf_ctl_query.specs.QueryText.{IsStopFault}
use Rattle.npf_ctl_words.specs.{Laws.IsSameCommand, declared.command.Invocation.Invocation}
use Rattle.npf_ctl_words.specs.declared.command.Invocation.TheVariants as Words
use Rattle.npf_ctl.specs.declared.{questions.ConfigQuestion.ConfigQuestion, findings.Finding.{Finding, TheVariants.{Nothing, Something}}}
use Rattle.npf_ctl.specs.declared.questions.ConfigQuestion.TheVariants as Asked
use Rattle.npf_ctl.specs.Questions.{AnswersClass, AnswersQuestion, RefusesClass, RefusesQuestion, asking_command, class_text_of, own_of, steps_of}
use Rattle.npf_ctl.specs.{Commands.is_question, Run.Moment, Texts.TextOf, Top.DoesCommand}

asking_asks : (question : ConfigQuestion) → is_question (asking_command question) ≡ true
asking_asks (Asked.Explain words) = refl
asking_asks (Asked.Query words) = refl

refuses_class : {given : List Iface} {config : Configuration} (command : Invocation) {fault : CommandFault} → RefusesClass given config command fault →
    is_question command ≡ true
refuses_class command (RefusesClass.class question asks refused) = ap is_question asks ∙ asking_asks question
refuses_class command (RefusesClass.spent question asks spent) = ap is_question asks ∙ asking_asks question

module _ {before after : FilesMoment} {given : List Iface} {config : Configuration} (command : Invocation) where
  pub refuses_question : {fault : CommandFault} → RefusesQuestion before after given config command fault → is_question command ≡ true
  refuses_question (RefusesQuestion.class refuses) = refuses_class command refuses
  refuses_question (RefusesQuestion.check words asks refuses) = ap is_question asks
  refuses_question (RefusesQuestion.lint words asks refuses) = ap is_question asks
  refuses_question (RefusesQuestion.compare words asks refuses) = ap is_question asks

  answers_question : {finding : Finding} {text : List ℕ} → AnswersQuestion before after given config command finding text → is_question command ≡ true
  answers_question (AnswersQuestion.class answers) = ap is_question answers.asks ∙ asking_asks answers.question
  answers_question (AnswersQuestion.check words asks answers) = ap is_question asks
  answers_question (AnswersQuestion.lint words found asks answers finds) = ap is_question asks
  answers_question (AnswersQuestion.compare words asks answers) = ap is_question asks

-- and is refused by its class, or for its steps
pub refused_question : (given : List Iface) (config : Configuration) (question : ConfigQuestion) (fault : CommandFault) →
    RefusesAsked given config (own_of question) (class_text_of question) fault → RefusesClass given config (asking_command question) fault
refused_question given config question fault refuses = RefusesClass.class question refl refuses

pub spent_question : {A : Type 0} (given : List Iface) (config : Configuration) (question : ConfigQuestion) (result : Result A CommandFault) →
    IfErr result (IsStopFault (steps_of question)) → IfErr result (RefusesClass given config (asking_command question))
spent_question given config question (Ok answer) spent = spent
spent_question given config question (Err fault) spent = RefusesClass.spent question refl spent

pub same_question : (a b : Invocation) → IsSameCommand a b → is_question a ≡ is_question b
same_question (Words.Run a) (Words.Run b) same = refl
same_question (Words.Validate a) (Words.Validate b) same = refl
same_question (Words.Show a) (Words.Show b) same = refl
same_question (Words.Debug a) (Words.Debug b) same = refl
same_question (Words.Why a) (Words.Why b) same = refl
same_question (Words.WhyAll a) (Words.WhyAll b) same = refl
same_question (Words.Explain a) (Words.Explain b) same = refl
same_question (Words.Query a) (Words.Query b) same = refl
same_question (Words.Check a) (Words.Check b) same = refl
same_question (Words.Lint a) (Words.Lint b) same = refl
same_question (Words.Compare a) (Words.Compare b) same = refl
same_question (Words.Gen a) (Words.Gen b) same = refl
same_question _ _ same = absurd same

module _ (before after : Moment) where
  plain_text : (command : Invocation) (finding : Finding) (text : List ℕ) → is_question command ≡ false → TextOf before after command finding text →
      finding ≡ Nothing
  plain_text _ _ _ plain (TextOf.report plays) = refl
  plain_text _ _ _ plain (TextOf.count loads) = refl
  plain_text _ _ _ plain (TextOf.model loads) = refl
  plain_text _ _ _ plain (TextOf.sound loads) = refl
  plain_text _ _ _ plain (TextOf.all_sound loads) = refl
  plain_text _ _ _ plain (TextOf.programs loads within) = refl
  plain_text _ _ _ plain (TextOf.total holds plays) = refl
  plain_text command _ _ plain (TextOf.answer loaded asks answers) = absurd (false≢true (sym plain ∙ answers_question command answers))

  -- a command that asks nothing finds nothing
  pub plain_command : (command : Invocation) (finding : Finding) → is_question command ≡ false → DoesCommand command finding before after → finding ≡ Nothing
  plain_command (Words.Run run) Nothing plain does = refl
  plain_command (Words.Run run) Something plain does = absurd does
  plain_command (Words.Validate load) finding plain does = plain_text _ _ _ plain does.of
  plain_command (Words.Show load) finding plain does = plain_text _ _ _ plain does.of
  plain_command (Words.Debug load) finding plain does = plain_text _ _ _ plain does.of
  plain_command (Words.Why load) finding plain does = plain_text _ _ _ plain does.of
  plain_command (Words.WhyAll load) finding plain does = plain_text _ _ _ plain does.of
  plain_command (Words.Explain words) finding plain does = absurd (false≢true (sym plain))
  plain_command (Words.Query words) finding plain does = absurd (false≢true (sym plain))
  plain_command (Words.Check words) finding plain does = absurd (false≢true (sym plain))
  plain_command (Words.Lint words) finding plain does = absurd (false≢true (sym plain))
  plain_command (Words.Compare words) finding plain does = absurd (false≢true (sym plain))
  plain_command (Words.Gen number) finding plain does = plain_text _ _ _ plain does.of
