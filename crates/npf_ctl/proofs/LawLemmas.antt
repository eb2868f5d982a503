-- What must be refused is, and what can be done is done, where contents are told and no read fails.
use Rattle.std.proofs.{Common.{◌≡◌, ◌∙◌, ◌⊎◌, ⊎_elim, ap, inl, inr, ℕ, false, true, List, Some, None, Ok, Err, Result, refl, sym, subst, arith}, lemmas.Bool.false≢true}
use Rattle.npf_config_law.specs.{Answers.AreOne, Entries.AreOneConfiguration}
use Rattle.npf_outside.specs.{Counts.{Rose, StoodStill}, Files.Tree, Sink.SinkMoment}
use Rattle.npf_ctl_input.specs.{File.{ReadsWell, told_files}, Laws.{FilesAreOfContents, LoadsAreOfContents}, Loads.LoadsAlone}
use Rattle.npf_engine.specs.declared.outcome.Outcome.{Outcome}
use Rattle.npf_traffic.specs.declared.packet.Packet.{Packet}
use Rattle.npf_ctl_messages.specs.{declared.fault.CommandFault.CommandFault, Message.status_of_fault}
use Rattle.npf_model.specs.{Configuration.Configuration, declared.iface.Iface.Iface}
use Rattle.npf_types.specs.Stages.{goes_on}
use Rattle.npf_ctl_prepare.specs.{Laws.RunsAreOfContents, Prepares.RunPlan}
use Rattle.npf_ctl_prepare_law.specs.{Laws.{OneLoadAlone, OneRun}, Readings.AreOnePlan}
use Rattle.npf_ctl_words.specs.{declared.command.{Invocation.Invocation, Load.Load, RunWords.RunWords}, CommandLine.{SaysCommand, given_text, is_command_line}}
use Rattle.npf_ctl_words.specs.declared.command.Invocation.TheVariants as Words
use Rattle.npf_ctl_words.specs.Laws.{IsSameCommand, IsSameLoad, IsSameRun, OneCommand}
use Rattle.npf_ctl.specs.Commands.{is_question, load_of_check, load_of_compare, load_of_explain, load_of_lint, load_of_query, loaded_by, names_of_run, spread_said}
use Rattle.npf_ctl.specs.{Generated.{HoldsWorkload, PreparesOf, generated_names}, Ends.AnswersWords}
use Rattle.npf_ctl.specs.{Faults.{MeetsFault, PutsFront}, Run.{Moment, PlaysWords}, Starting.StartsRun, Texts.{IsAskedOf, TextOf}}
use Rattle.npf_ctl.{specs.Top.{HasStatus, CanDo, DoesCommand, DoesWords, IsOk, MustRefuse, RanOutOfNodes}, proofs.EndLemmas.reported_front}
use Rattle.npf_ctl.specs.{declared.findings.Finding.{Finding, TheVariants.{Nothing, Something}}, Findings.status_of_finding}
use Rattle.npf_ctl.proofs.QuestionLemmas.{plain_command, refuses_question, same_question}
use Rattle.npf_ctl.proofs.{ReasonLemmas.{explained_loads, why_loads}, OneStartLemmas.{HaveOneStatus, one_start, told_alike}, StartLemmas.{started, started_without, starts_of_contents}}

-- what a reading that came to something agrees with came to something
ok_of : {A : Type 0} (Same : A → A → Type 0) (a : A) (result : Result A CommandFault) → AreOne Same HaveOneStatus (Ok a) result → IsOk result
ok_of Same a (Ok b) same = tt
ok_of Same a (Err fault) never = never

-- a fault of files is told by what they come to
module _ (words : List (List ℕ)) (before after : Moment) (A : Type 0) (ComesTo : Result A CommandFault → Type 0) where
  record IsToldBy : Type 0 where
    taken : is_command_line words ≡ true
    does : {finding : Finding} → DoesWords words finding before after → (a : A) × ComesTo (Ok a)
    front : PutsFront words before after → (a : A) × ComesTo (Ok a)
    runs : {run : RunWords} {fault : CommandFault} → SaysCommand words (Words.Run run) →
        StartsRun before.files after.files (names_of_run run) (given_text run.load) before.pass.slots (Err fault) → ComesTo (Err fault)
    nodes : {run : RunWords} {plan : RunPlan} → SaysCommand words (Words.Run run) →
        StartsRun before.files after.files (names_of_run run) (given_text run.load) before.pass.slots (Ok plan) → (a : A) × ComesTo (Ok a)
    loads : {command : Invocation} {load : Load} {fault : CommandFault} → SaysCommand words command → loaded_by command ≡ Some load →
        LoadsAlone before.files after.files (given_text load.ifaces) load.conf.now (Err fault) → ComesTo (Err fault)
    asked : {command : Invocation} {load : Load} {given : List Iface} {config : Configuration} → SaysCommand words command → loaded_by command ≡ Some load →
        IsAskedOf before after load given config → (a : A) × ComesTo (Ok a)
    generated : {number : ℕ} {tree : Tree} {fault : CommandFault} → SaysCommand words (Words.Gen number) → HoldsWorkload number tree → PreparesOf tree (Err fault) →
        ComesTo (Err fault)

  module _ (is : IsToldBy) (old new : SinkMoment) (status : ℕ) where
    -- faults of one status alone can be told
    only : (Same : A → A → Type 0) (fault : CommandFault) → ((result : Result A CommandFault) → ComesTo result → AreOne Same HaveOneStatus (Err fault) result) →
        AnswersWords words before after old new status → HasStatus (status_of_fault fault) status
    only Same fault must (AnswersWords.done is_done does flushed silent) = let ok = is.does does in absurd (must (Ok ok.0) ok.1)
    only Same fault must (AnswersWords.refused faulted) = by faulted.fault faulted.cause faulted.status_is where
      never : {X : Type 0} → (a : A) × ComesTo (Ok a) → X
      never ok = absurd (must (Ok ok.0) ok.1)

      same : (other : CommandFault) → ComesTo (Err other) → status ≡ status_of_fault other → HasStatus (status_of_fault fault) status
      same other comes at = inl (at ∙ sym (must (Err other) comes))

      by : (other : CommandFault) → MeetsFault words before after other → status ≡ status_of_fault other → HasStatus (status_of_fault fault) status
      by _ (MeetsFault.in_words not untouched) at = absurd (false≢true (sym not ∙ is.taken))
      by other (MeetsFault.in_run said comes untouched) at = same other (is.runs said comes) at
      by _ (MeetsFault.in_nodes {run = run} {file = file} {plan = plan} said named prepared lacks put unchanged) at =
          never (is.nodes said (started_without (names_of_run run) (given_text run.load) file before.files after.files before.pass after.pass plan named prepared lacks))
      by other (MeetsFault.in_loading said loaded plain comes untouched) at = same other (is.loads said loaded comes) at
      by _ (MeetsFault.in_asking said loaded asks refuses untouched) at = never (is.asked said loaded asks)
      by other (MeetsFault.in_workload said holds comes untouched) at = same other (is.generated said holds comes) at
      by _ (MeetsFault.in_output rose unchanged front) at = never (is.front front)
      by _ (MeetsFault.in_writing {run = run} {plan = plan} {outputs = outputs} {outcomes = outcomes} fails reports passed) at =
          never (is.front (reported_front words before after run plan fails.said outputs outcomes reports))
      by _ (MeetsFault.in_saving {run = run} {plan = plan} {outputs = outputs} {outcomes = outcomes} fails passed) at =
          never (is.front (reported_front words before after run plan fails.said outputs outcomes fails.reports))
      by _ (MeetsFault.in_memory put kept) at = inr at
      by other (MeetsFault.in_explaining why) at =
          same other (is.loads why.said (why_loads why.which why.load)
          (explained_loads why.which before.files after.files (given_text why.load.ifaces) why.load.conf.now other why.text why.explains)) at
      by _ (MeetsFault.in_saying why) at = inr at

    -- no fault can be told of a command that asks nothing, unless the table has no node for a connection that a run loads
    none : ((command : Invocation) → SaysCommand words command → is_question command ≡ false) → (Lacks : Type 0) →
        ((run : RunWords) → SaysCommand words (Words.Run run) → RanOutOfNodes before.pass after.pass status → Lacks) →
        ((result : Result A CommandFault) → ComesTo result → IsOk result) → StoodStill before.out.faults after.out.faults →
        ((run : RunWords) → SaysCommand words (Words.Run run) → StoodStill before.files.write_faults after.files.write_faults) → AnswersWords words before after old new status →
        HasStatus 0 status ⊎ Lacks
    none plain Lacks lacking can puts writes (AnswersWords.done {finding = found} is_done does flushed silent) =
        inl (inl (is_done ∙ ap status_of_finding (plain_command before after does.command found (plain does.command does.said) does.does)))
    none plain Lacks lacking can puts writes (AnswersWords.refused faulted) = by faulted.fault faulted.cause faulted.status_is where
      unfailed : (run : RunWords) → SaysCommand words (Words.Run run) → Rose before.files.write_faults after.files.write_faults → ⊥
      unfailed run said rose = let still = writes run said in omega (arith, rose, still.0, still.1)

      by : (other : CommandFault) → MeetsFault words before after other → status ≡ status_of_fault other → HasStatus 0 status ⊎ Lacks
      by _ (MeetsFault.in_words not untouched) at = absurd (false≢true (sym not ∙ is.taken))
      by other (MeetsFault.in_run said comes untouched) at = absurd (can (Err other) (is.runs said comes))
      by _ (MeetsFault.in_nodes {run = run} said named prepared lacks put unchanged) at = inr (lacking run said (record { status_is = at; sweeps = lacks.lacks.2.sweeps }))
      by other (MeetsFault.in_loading said loaded placed comes untouched) at = absurd (can (Err other) (is.loads said loaded comes))
      by _ (MeetsFault.in_asking {command = command} said loaded asks refuses untouched) at =
          absurd (false≢true (sym (plain command said) ∙ refuses_question command refuses))
      by other (MeetsFault.in_workload said holds comes untouched) at = absurd (can (Err other) (is.generated said holds comes))
      by _ (MeetsFault.in_output rose same front) at = absurd (omega (arith, rose, puts.0, puts.1))
      by _ (MeetsFault.in_writing {run = run} fails reports passed) at = absurd (unfailed run fails.said fails.failed)
      by _ (MeetsFault.in_saving {run = run} fails passed) at = absurd (unfailed run fails.said fails.failed)
      by _ (MeetsFault.in_memory put kept) at = inl (inr at)
      by other (MeetsFault.in_explaining why) at =
          absurd (can (Err other) (is.loads why.said (why_loads why.which why.load)
          (explained_loads why.which before.files after.files (given_text why.load.ifaces) why.load.conf.now other why.text why.explains)))
      by _ (MeetsFault.in_saying why) at = inl (inr at)

module _ (words : List (List ℕ)) (before after : Moment) (tree : Tree) (told : before.files.contents ≡ Some tree) (well : ReadsWell before.files after.files) (one : OneCommand) where
  module _ (of_runs : RunsAreOfContents) (of_files : FilesAreOfContents) (run : RunWords) (said : SaysCommand words (Words.Run run)) where
    abbrev OfRun : Result RunPlan CommandFault → Type 0
    OfRun = StartsRun (told_files tree) (told_files tree) (names_of_run run) (given_text run.load) before.pass.slots

    same_names : (b : RunWords) → IsSameRun run b → names_of_run b ≡ names_of_run run
    same_names b same = rw (same.conf, same.script, same.ifaces, same.on, same.dir, same.expire) refl

    starts : (b : RunWords) → SaysCommand words (Words.Run b) → (result : Result RunPlan CommandFault) →
        StartsRun before.files after.files (names_of_run b) (given_text b.load) before.pass.slots result → OfRun result
    starts b said_b result comes =
        let same = one words (Words.Run run) (Words.Run b) said said_b in
        starts_of_contents of_runs of_files (names_of_run run) (given_text run.load) before.pass.slots tree before.files after.files result told well
        (subst (λ load. StartsRun before.files after.files (names_of_run run) load before.pass.slots result) (sym same.load)
        (subst (λ names. StartsRun before.files after.files names (given_text b.load) before.pass.slots result) (same_names b same) comes))

    plays_so : (b : RunWords) → SaysCommand words (Words.Run b) → (plan : RunPlan) (outputs : List Packet) (outcomes : List Outcome) → PlaysWords b before after plan outputs outcomes →
        (plan : RunPlan) × OfRun (Ok plan)
    plays_so b said_b plan outputs outcomes plays = (
      plays.read,
      starts b said_b (Ok plays.read)
          (started (names_of_run b) (given_text b.load) b.workers (spread_said b.spread) before.files after.files before.pass after.pass plan outputs outcomes plays),
    )

    no_loads : {X : Type 0} (command : Invocation) (load : Load) → SaysCommand words command → loaded_by command ≡ Some load → X
    no_loads (Words.Run b) load said_b loaded = cc
    no_loads (Words.Validate l) load said_b loaded = absurd (one words (Words.Run run) (Words.Validate l) said said_b)
    no_loads (Words.Show l) load said_b loaded = absurd (one words (Words.Run run) (Words.Show l) said said_b)
    no_loads (Words.Debug l) load said_b loaded = absurd (one words (Words.Run run) (Words.Debug l) said said_b)
    no_loads (Words.Why l) load said_b loaded = absurd (one words (Words.Run run) (Words.Why l) said said_b)
    no_loads (Words.WhyAll l) load said_b loaded = absurd (one words (Words.Run run) (Words.WhyAll l) said said_b)
    no_loads (Words.Explain w) load said_b loaded = absurd (one words (Words.Run run) (Words.Explain w) said said_b)
    no_loads (Words.Query w) load said_b loaded = absurd (one words (Words.Run run) (Words.Query w) said said_b)
    no_loads (Words.Check w) load said_b loaded = absurd (one words (Words.Run run) (Words.Check w) said said_b)
    no_loads (Words.Lint w) load said_b loaded = absurd (one words (Words.Run run) (Words.Lint w) said said_b)
    no_loads (Words.Compare w) load said_b loaded = absurd (one words (Words.Run run) (Words.Compare w) said said_b)
    no_loads (Words.Gen number) load said_b loaded = cc

    run_text : (command : Invocation) (finding : Finding) (text : List ℕ) → SaysCommand words command → TextOf before after command finding text → (plan : RunPlan) × OfRun (Ok plan)
    run_text _ _ _ said_b (TextOf.report {run = b} {plan = plan} {outputs = outputs} {outcomes = outcomes} plays) = plays_so b said_b plan outputs outcomes plays
    run_text _ _ _ said_b (TextOf.count {load = load} loads) = absurd (one words (Words.Run run) (Words.Validate load) said said_b)
    run_text _ _ _ said_b (TextOf.model {load = load} loads) = absurd (one words (Words.Run run) (Words.Show load) said said_b)
    run_text _ _ _ said_b (TextOf.programs {load = load} loads within) = absurd (one words (Words.Run run) (Words.Debug load) said said_b)
    run_text _ _ _ said_b (TextOf.sound {load = load} loads) = absurd (one words (Words.Run run) (Words.Why load) said said_b)
    run_text _ _ _ said_b (TextOf.all_sound {load = load} loads) = absurd (one words (Words.Run run) (Words.WhyAll load) said said_b)
    run_text command _ _ said_b (TextOf.answer {load = load} loaded asks answers) = no_loads command load said_b loaded
    run_text _ _ _ said_b (TextOf.total {number = number} holds plays) = absurd (one words (Words.Run run) (Words.Gen number) said said_b)

    run_does : (command : Invocation) (finding : Finding) → SaysCommand words command → DoesCommand command finding before after → (plan : RunPlan) × OfRun (Ok plan)
    run_does (Words.Run b) Nothing said_b does = plays_so b said_b does.plan does.outputs does.outcomes does.reports.played
    run_does (Words.Run b) Something said_b does = absurd does
    run_does (Words.Validate load) finding said_b does = run_text _ _ _ said_b does.of
    run_does (Words.Show load) finding said_b does = run_text _ _ _ said_b does.of
    run_does (Words.Debug load) finding said_b does = run_text _ _ _ said_b does.of
    run_does (Words.Why load) finding said_b does = run_text _ _ _ said_b does.of
    run_does (Words.WhyAll load) finding said_b does = run_text _ _ _ said_b does.of
    run_does (Words.Explain asked) finding said_b does = run_text _ _ _ said_b does.of
    run_does (Words.Query asked) finding said_b does = run_text _ _ _ said_b does.of
    run_does (Words.Check asked) finding said_b does = run_text _ _ _ said_b does.of
    run_does (Words.Lint asked) finding said_b does = run_text _ _ _ said_b does.of
    run_does (Words.Compare asked) finding said_b does = run_text _ _ _ said_b does.of
    run_does (Words.Gen number) finding said_b does = run_text _ _ _ said_b does.of

    run_told : IsToldBy words before after RunPlan OfRun
    run_told = record {
      taken = said.taken;
      does = λ {finding} does. run_does does.command finding does.said does.does;
      front = λ front. run_text front.command front.finding front.text front.said front.of;
      runs = λ {run = b} {fault} said_b comes. starts b said_b (Err fault) comes;
      nodes = λ {run = b} {plan} said_b comes. (plan, starts b said_b (Ok plan) comes);
      loads = λ {command} {load} {fault} said_b loaded comes. no_loads command load said_b loaded;
      asked = λ {command} {load} {given} {config} said_b loaded asks. no_loads command load said_b loaded;
      generated = λ {number} {tree} {fault} said_b holds comes. absurd (one words (Words.Run run) (Words.Gen number) said said_b);
    }

  module _ (of_loads : LoadsAreOfContents) (command : Invocation) (load : Load) (said : SaysCommand words command) (loaded : loaded_by command ≡ Some load) where
    abbrev OfLoad : Result Configuration CommandFault → Type 0
    OfLoad = LoadsAlone (told_files tree) (told_files tree) (given_text load.ifaces) load.conf.now

    -- another command of the same words loads the same
    same_loaded : (a b : Invocation) → IsSameCommand a b → loaded_by a ≡ Some load → (other : Load) → loaded_by b ≡ Some other → IsSameLoad load other
    same_loaded (Words.Validate l) (Words.Validate m) same e other f = let p : l ≡ load = cc in let q : m ≡ other = cc in subst (λ x. IsSameLoad x other) p (subst (IsSameLoad l) q same)
    same_loaded (Words.Show l) (Words.Show m) same e other f = let p : l ≡ load = cc in let q : m ≡ other = cc in subst (λ x. IsSameLoad x other) p (subst (IsSameLoad l) q same)
    same_loaded (Words.Debug l) (Words.Debug m) same e other f = let p : l ≡ load = cc in let q : m ≡ other = cc in subst (λ x. IsSameLoad x other) p (subst (IsSameLoad l) q same)
    same_loaded (Words.Why l) (Words.Why m) same e other f = let p : l ≡ load = cc in let q : m ≡ other = cc in subst (λ x. IsSameLoad x other) p (subst (IsSameLoad l) q same)
    same_loaded (Words.WhyAll l) (Words.WhyAll m) same e other f = let p : l ≡ load = cc in let q : m ≡ other = cc in subst (λ x. IsSameLoad x other) p (subst (IsSameLoad l) q same)
    same_loaded (Words.Explain l) (Words.Explain m) same e other f =
        let p : load_of_explain l ≡ load = cc in
        let q : load_of_explain m ≡ other = cc in
        subst (λ x. IsSameLoad x other) p (subst (IsSameLoad (load_of_explain l)) q (record { conf = same.conf; ifaces = same.ifaces }))
    same_loaded (Words.Query l) (Words.Query m) same e other f =
        let p : load_of_query l ≡ load = cc in
        let q : load_of_query m ≡ other = cc in
        subst (λ x. IsSameLoad x other) p (subst (IsSameLoad (load_of_query l)) q (record { conf = same.conf; ifaces = same.ifaces }))
    same_loaded (Words.Check l) (Words.Check m) same e other f =
        let p : load_of_check l ≡ load = cc in
        let q : load_of_check m ≡ other = cc in
        subst (λ x. IsSameLoad x other) p (subst (IsSameLoad (load_of_check l)) q (record { conf = same.conf; ifaces = same.ifaces }))
    same_loaded (Words.Lint l) (Words.Lint m) same e other f =
        let p : load_of_lint l ≡ load = cc in
        let q : load_of_lint m ≡ other = cc in
        subst (λ x. IsSameLoad x other) p (subst (IsSameLoad (load_of_lint l)) q (record { conf = same.conf; ifaces = same.ifaces }))
    same_loaded (Words.Compare l) (Words.Compare m) same e other f =
        let p : load_of_compare l ≡ load = cc in
        let q : load_of_compare m ≡ other = cc in
        subst (λ x. IsSameLoad x other) p (subst (IsSameLoad (load_of_compare l)) q (record { conf = same.old; ifaces = same.ifaces }))
    same_loaded (Words.Run l) b same e other f = cc
    same_loaded (Words.Gen l) b same e other f = cc
    same_loaded _ _ same e other f = absurd same

    loads_so : (b : Invocation) (other : Load) → SaysCommand words b → loaded_by b ≡ Some other → (result : Result Configuration CommandFault) →
        LoadsAlone before.files after.files (given_text other.ifaces) other.conf.now result → OfLoad result
    loads_so b other said_b loaded_b result comes =
        let same = same_loaded command b (one words command b said said_b) loaded other loaded_b in
        of_loads (given_text load.ifaces) load.conf.now tree before.files after.files result told well
        (subst (λ conf. LoadsAlone before.files after.files (given_text load.ifaces) conf result) (sym same.conf)
        (subst (λ ifaces. LoadsAlone before.files after.files ifaces other.conf.now result) (sym same.ifaces) comes))

    not_other : {X : Type 0} (b : Invocation) → SaysCommand words b → loaded_by b ≡ None → X
    not_other {X} b said_b none = by command b (one words command b said said_b) loaded none where
      by : (a b : Invocation) → IsSameCommand a b → loaded_by a ≡ Some load → loaded_by b ≡ None → X
      by (Words.Run l) b same e f = cc
      by (Words.Gen l) b same e f = cc
      by (Words.Validate l) (Words.Validate m) same e f = cc
      by (Words.Show l) (Words.Show m) same e f = cc
      by (Words.Debug l) (Words.Debug m) same e f = cc
      by (Words.Why l) (Words.Why m) same e f = cc
      by (Words.WhyAll l) (Words.WhyAll m) same e f = cc
      by (Words.Explain l) (Words.Explain m) same e f = cc
      by (Words.Query l) (Words.Query m) same e f = cc
      by (Words.Check l) (Words.Check m) same e f = cc
      by (Words.Lint l) (Words.Lint m) same e f = cc
      by (Words.Compare l) (Words.Compare m) same e f = cc
      by _ _ same e f = absurd same

    load_text : (b : Invocation) (finding : Finding) (text : List ℕ) → SaysCommand words b → TextOf before after b finding text → (config : Configuration) × OfLoad (Ok config)
    load_text _ _ _ said_b (TextOf.report {run = b} plays) = not_other (Words.Run b) said_b refl
    load_text _ _ _ said_b (TextOf.count {load = l} {config = config} loads) = (config, loads_so (Words.Validate l) l said_b refl (Ok config) loads.loads)
    load_text _ _ _ said_b (TextOf.model {load = l} {config = config} loads) = (config, loads_so (Words.Show l) l said_b refl (Ok config) loads.loads)
    load_text _ _ _ said_b (TextOf.programs {load = l} {config = config} loads within) = (config, loads_so (Words.Debug l) l said_b refl (Ok config) loads.loads)
    load_text _ _ _ said_b (TextOf.sound {load = l} {config = config} loads) = (config, loads_so (Words.Why l) l said_b refl (Ok config) loads.loads)
    load_text _ _ _ said_b (TextOf.all_sound {load = l} {config = config} loads) = (config, loads_so (Words.WhyAll l) l said_b refl (Ok config) loads.loads)
    load_text b _ _ said_b (TextOf.answer {load = l} {config = config} loaded_b asks answers) =
        (config, loads_so b l said_b loaded_b (Ok config) (goes_on asks.reads asks.loads))
    load_text _ _ _ said_b (TextOf.total {number = number} holds plays) = not_other (Words.Gen number) said_b refl

    load_does : (b : Invocation) (finding : Finding) → SaysCommand words b → DoesCommand b finding before after → (config : Configuration) × OfLoad (Ok config)
    load_does (Words.Run b) finding said_b does = not_other (Words.Run b) said_b refl
    load_does (Words.Validate l) finding said_b does = load_text _ _ _ said_b does.of
    load_does (Words.Show l) finding said_b does = load_text _ _ _ said_b does.of
    load_does (Words.Debug l) finding said_b does = load_text _ _ _ said_b does.of
    load_does (Words.Why l) finding said_b does = load_text _ _ _ said_b does.of
    load_does (Words.WhyAll l) finding said_b does = load_text _ _ _ said_b does.of
    load_does (Words.Explain asked) finding said_b does = load_text _ _ _ said_b does.of
    load_does (Words.Query asked) finding said_b does = load_text _ _ _ said_b does.of
    load_does (Words.Check asked) finding said_b does = load_text _ _ _ said_b does.of
    load_does (Words.Lint asked) finding said_b does = load_text _ _ _ said_b does.of
    load_does (Words.Compare asked) finding said_b does = load_text _ _ _ said_b does.of
    load_does (Words.Gen number) finding said_b does = load_text _ _ _ said_b does.of

    load_told : IsToldBy words before after Configuration OfLoad
    load_told = record {
      taken = said.taken;
      does = λ {finding} does. load_does does.command finding does.said does.does;
      front = λ front. load_text front.command front.finding front.text front.said front.of;
      runs = λ {run = b} {fault} said_b comes. not_other (Words.Run b) said_b refl;
      nodes = λ {run = b} {plan} said_b comes. not_other (Words.Run b) said_b refl;
      loads = λ {command = b} {load = other} {fault} said_b loaded_b comes. loads_so b other said_b loaded_b (Err fault) comes;
      asked = λ {command = b} {load = other} {given} {config} said_b loaded_b asks.
          (config, loads_so b other said_b loaded_b (Ok config) (goes_on asks.reads asks.loads));
      generated = λ {number} {tree} {fault} said_b holds comes. not_other (Words.Gen number) said_b refl;
    }

  module _ (of_runs : RunsAreOfContents) (of_files : FilesAreOfContents) (of_loads : LoadsAreOfContents) (one_run : OneRun) (one_load : OneLoadAlone) (old new : SinkMoment) (status : ℕ) where
    pub refuses_fault : (fault : CommandFault) → MustRefuse words tree before.pass.slots fault → AnswersWords words before after old new status → HasStatus (status_of_fault fault) status
    refuses_fault fault (MustRefuse.run {words_of = run} said must) =
        only words before after RunPlan (OfRun of_runs of_files run said) (run_told of_runs of_files run said) old new status AreOnePlan fault
        (λ result. one_start tree one_run (names_of_run run) (given_text run.load) before.pass.slots (Err fault) result must)
    refuses_fault fault (MustRefuse.load {command = command} {load_of = load} said loaded must) =
        only words before after Configuration (OfLoad of_loads command load said loaded) (load_told of_loads command load said loaded) old new status AreOneConfiguration fault
        (λ result comes. told_alike AreOneConfiguration (Err fault) result (one_load tree (given_text load.ifaces) load.conf.now (Err fault) result must comes))

    pub does_all : CanDo words tree before.pass.slots → StoodStill before.out.faults after.out.faults → StoodStill before.files.write_faults after.files.write_faults →
        AnswersWords words before after old new status → HasStatus 0 status ⊎ RanOutOfNodes before.pass after.pass status
    does_all (CanDo.run {words_of = run} {plan = plan} said can) puts writes =
        none words before after RunPlan (OfRun of_runs of_files run said) (run_told of_runs of_files run said) old new status
        (λ b said_b. sym (same_question (Words.Run run) b (one words (Words.Run run) b said said_b))) (RanOutOfNodes before.pass after.pass status) (λ b said_b lacks. lacks)
        (λ result comes. ok_of AreOnePlan plan result (one_start tree one_run (names_of_run run) (given_text run.load) before.pass.slots (Ok plan) result can comes)) puts (λ b said_b. writes)
    does_all (CanDo.load {command = command} {load_of = load} {config = config} said loaded plain can) puts writes =
        none words before after Configuration (OfLoad of_loads command load said loaded) (load_told of_loads command load said loaded) old new status
        (λ b said_b. sym (same_question command b (one words command b said said_b)) ∙ plain)
        (RanOutOfNodes before.pass after.pass status) (λ b said_b lacks. lacks)
        (λ result comes. ok_of AreOneConfiguration config result
        (told_alike AreOneConfiguration (Ok config) result (one_load tree (given_text load.ifaces) load.conf.now (Ok config) result can comes))) puts (λ b said_b. writes)

module _ (words : List (List ℕ)) (before after : Moment) (one : OneCommand) (number : ℕ) (said : SaysCommand words (Words.Gen number)) where
  abbrev OfGenerated : Result RunPlan CommandFault → Type 0
  OfGenerated result = (held : Tree) × HoldsWorkload number held × PreparesOf held result

  -- these words say no other command
  no_other : {X : Type 0} (command : Invocation) → SaysCommand words command → ((other : ℕ) → command ≡ Words.Gen other → ⊥) → X
  no_other {X} command said_b not = by command (one words (Words.Gen number) command said said_b) not where
    by : (c : Invocation) → IsSameCommand (Words.Gen number) c → ((other : ℕ) → c ≡ Words.Gen other → ⊥) → X
    by (Words.Gen other) same not = absurd (not other refl)
    by (Words.Run r) same not = absurd same
    by (Words.Validate l) same not = absurd same
    by (Words.Show l) same not = absurd same
    by (Words.Debug l) same not = absurd same
    by (Words.Why l) same not = absurd same
    by (Words.WhyAll l) same not = absurd same
    by (Words.Explain w) same not = absurd same
    by (Words.Query w) same not = absurd same
    by (Words.Check w) same not = absurd same
    by (Words.Lint w) same not = absurd same
    by (Words.Compare w) same not = absurd same

  holds_so : (other : ℕ) → SaysCommand words (Words.Gen other) → (held : Tree) → HoldsWorkload other held → HoldsWorkload number held
  holds_so other said_b held holds =
      subst (λ n. HoldsWorkload n held) (sym (one words (Words.Gen number) (Words.Gen other) said said_b)) holds

  not_loading : {X : Type 0} (command : Invocation) (load : Load) → SaysCommand words command → loaded_by command ≡ Some load → X
  not_loading command load said_b loaded = no_other command said_b (λ other e. (let l = subst (λ c. loaded_by c ≡ Some load) e loaded in cc))

  generated_text : (command : Invocation) (finding : Finding) (text : List ℕ) → SaysCommand words command → TextOf before after command finding text → (plan : RunPlan) × OfGenerated (Ok plan)
  generated_text _ _ _ said_b (TextOf.report {run = b} plays) = no_other (Words.Run b) said_b (λ other e. cc)
  generated_text _ _ _ said_b (TextOf.count {load = load} loads) = no_other (Words.Validate load) said_b (λ other e. cc)
  generated_text _ _ _ said_b (TextOf.model {load = load} loads) = no_other (Words.Show load) said_b (λ other e. cc)
  generated_text _ _ _ said_b (TextOf.programs {load = load} loads within) = no_other (Words.Debug load) said_b (λ other e. cc)
  generated_text _ _ _ said_b (TextOf.sound {load = load} loads) = no_other (Words.Why load) said_b (λ other e. cc)
  generated_text _ _ _ said_b (TextOf.all_sound {load = load} loads) = no_other (Words.WhyAll load) said_b (λ other e. cc)
  generated_text command _ _ said_b (TextOf.answer {load = load} loaded asks answers) = not_loading command load said_b loaded
  generated_text _ _ _ said_b (TextOf.total {number = other} {tree = held} {plan = plan} holds plays) = (plays.read, (held, holds_so other said_b held holds, plays.prepared))

  generated_does : (command : Invocation) (finding : Finding) → SaysCommand words command → DoesCommand command finding before after → (plan : RunPlan) × OfGenerated (Ok plan)
  generated_does (Words.Run b) finding said_b does = no_other (Words.Run b) said_b (λ other e. cc)
  generated_does (Words.Validate load) finding said_b does = generated_text _ _ _ said_b does.of
  generated_does (Words.Show load) finding said_b does = generated_text _ _ _ said_b does.of
  generated_does (Words.Debug load) finding said_b does = generated_text _ _ _ said_b does.of
  generated_does (Words.Why load) finding said_b does = generated_text _ _ _ said_b does.of
  generated_does (Words.WhyAll load) finding said_b does = generated_text _ _ _ said_b does.of
  generated_does (Words.Explain asked) finding said_b does = generated_text _ _ _ said_b does.of
  generated_does (Words.Query asked) finding said_b does = generated_text _ _ _ said_b does.of
  generated_does (Words.Check asked) finding said_b does = generated_text _ _ _ said_b does.of
  generated_does (Words.Lint asked) finding said_b does = generated_text _ _ _ said_b does.of
  generated_does (Words.Compare asked) finding said_b does = generated_text _ _ _ said_b does.of
  generated_does (Words.Gen other) finding said_b does = generated_text _ _ _ said_b does.of

  generated_told : IsToldBy words before after RunPlan OfGenerated
  generated_told = record {
    taken = said.taken;
    does = λ {finding} does. generated_does does.command finding does.said does.does;
    front = λ front. generated_text front.command front.finding front.text front.said front.of;
    runs = λ {run = b} {fault} said_b comes. no_other (Words.Run b) said_b (λ other e. cc);
    nodes = λ {run = b} {plan} said_b comes. no_other (Words.Run b) said_b (λ other e. cc);
    loads = λ {command} {load} {fault} said_b loaded comes. not_loading command load said_b loaded;
    asked = λ {command} {load} {given} {config} said_b loaded asks. not_loading command load said_b loaded;
    generated = λ {number = other} {tree = held} {fault} said_b holds comes. (held, holds_so other said_b held holds, comes);
  }

  pub generates_all : OneRun → ((held : Tree) → HoldsWorkload number held → (plan : RunPlan) × PreparesOf held (Ok plan)) →
      (old new : SinkMoment) (status : ℕ) → StoodStill before.out.faults after.out.faults → AnswersWords words before after old new status → HasStatus 0 status
  generates_all one_run can old new status puts answers =
      ⊎_elim (λ is. is) (λ lacks. absurd lacks)
      (none words before after RunPlan OfGenerated generated_told old new status
      (λ b said_b. sym (same_question (Words.Gen number) b (one words (Words.Gen number) b said said_b))) ⊥ (λ run said_b lacks. no_other (Words.Run run) said_b (λ other e. cc))
      (λ result comes. let plan = can comes.0 comes.1 in
      ok_of AreOnePlan plan.0 result (told_alike AreOnePlan (Ok plan.0) result (one_run comes.0 generated_names (Ok plan.0) result plan.1 comes.2))) puts
      (λ run said_b. no_other (Words.Run run) said_b (λ other e. cc)) answers)
