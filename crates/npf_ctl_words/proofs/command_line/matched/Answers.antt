use Rattle.std.proofs.Common.{◌≡◌, ◌∙◌, ap, [], inl, inr, sym, true}
use Rattle.clap.{specs.{Walk.is_empty, Words.{App, app_of, fault_of, is_simple, is_simple_and_free, matches_of}}, proofs.WalkLemmas.both}
use Rattle.npf_ctl_words.{specs.{CommandLine.word_texts, Definitions.definition_of}, proofs.SayLemmas.{among_some, err_fault}}
use Rattle.npf_ctl_words.specs.declared.fault.WordsFault.TheVariants as fault
use Rattle.npf_ctl_words.proofs.{SoundLemmas.{all_free, all_sound}, ValueLemmas.each_value, command_line.matched.Goals.{in-OutOfMemory, in_default}}
use Rattle.npf_ctl_words.proofs.command_line.matched.Goals as goal

pub returns-in-Ok-clause-taken : goal.returns-in-Ok-clause-taken
returns-in-Ok-clause-taken c =
    let is : app_of c.in_ok-command.command ≡ definition_of c.args.name = c.in_ok-command.ensures in
    let free = ap is_simple_and_free is ∙ all_free c.args.name in
    let none : fault_of (app_of c.in_ok-command.command) (word_texts c.args.words.now) ≡ [] = c.in-Ok.ensures.kinds free in
    ap is_empty (ap (λ (a : App). fault_of a (word_texts c.args.words.now)) (sym is) ∙ none)

pub returns-in-Ok-clause-found : goal.returns-in-Ok-clause-found
returns-in-Ok-clause-found c =
    let is : app_of c.in_ok-command.command ≡ definition_of c.args.name = c.in_ok-command.ensures in
    let free = ap is_simple_and_free is ∙ all_free c.args.name in
    let simple : is_simple (app_of c.in_ok-command.command) ≡ true = (both _ _ free).0 in
    record {
      rows = (c.in-Ok.ensures.matches simple).0 ∙ ap (λ (a : App). matches_of a (word_texts c.args.words.now)) is;
      values = each_value c.in_ok-command.command c.in-Ok.matches (definition_of c.args.name) is
          (all_sound c.args.name) c.in-Ok.ensures.parsed;
    }

pub returns-after-kind-clause-refused : goal.returns-after-kind-clause-refused
returns-after-kind-clause-refused c = λ usage.
    let is : app_of c.in_ok-command.command ≡ definition_of c.args.name = c.in_ok-command.ensures in
    let free = ap is_simple_and_free is ∙ all_free c.args.name in
    let kinds = c.in-Err.ensures.kinds free in
    elim c.match-kind.branch [
      | in-OutOfMemory w ↦
          let bad : fault.NoMemory ≡ fault.Usage = sym w.result-is ∙ ap (λ r. err_fault r fault.Usage) usage in
          cc
      | in_default w ↦ elim kinds [
        | inl lost ↦ absurd (w.in_default.not-OutOfMemory (c.kind.ensures ∙ lost))
        | inr some ↦ ap (λ (a : App). is_empty (fault_of a (word_texts c.args.words.now))) (sym is) ∙ among_some _ _ some
      ]
    ]
