-- What the program answers, by how the work on its words ended.
use Rattle.std.proofs.{Common.{◌≡◌, ◌⊎◌, ◌≤◌, ⊎_elim, ◌∙◌, inl, inr, ℕ, false, List, [], refl, sym, ap, subst, arith}, lemmas.Bool.false≢true}
use Rattle.npf_outside.specs.Sink.{Appends, SinkMoment}
use Rattle.npf_ctl_messages.specs.declared.fault.CommandFault.{CommandFault}
use Rattle.npf_ctl_messages.specs.declared.fault.CommandFault.TheVariants.{Usage, Configuration, Unread, Long, Saved, Capture, Line, Many, Steps, Unwritten, OutputUnwritten, NoMemory}
use Rattle.npf_ctl_messages.specs.Message.{status_of_fault}
use Rattle.npf_ctl_words.specs.CommandLine.{is_command_line}
use Rattle.npf_ctl.specs.{declared.findings.Finding.{Finding, TheVariants.{Nothing, Something}}, Findings.{IsDone, status_of_finding}}
use Rattle.npf_ctl.specs.{Ends.{AnswersWords, SaysFault}, Faults.{ChangesNoFile, IsFaulted, IsUntouched, LeavesFiles, MeetsFault, PutsFront, PutsNoText, PutsNothing, SaysWhy}}
use Rattle.npf_ctl.{specs.{Run.Moment, Top.{HasStatus, DoesWords, IsQuiet, RanOutOfNodes}}, proofs.EndLemmas.reported_front}

-- no fault has the status of work that was done
between : (fault : CommandFault) → (1 ≤ status_of_fault fault) × (status_of_fault fault ≤ 9)
between Usage = (omega arith, omega arith)
between (Configuration _ _) = (omega arith, omega arith)
between (Unread _) = (omega arith, omega arith)
between (Long _ _) = (omega arith, omega arith)
between (Saved _ _) = (omega arith, omega arith)
between (Capture _ _) = (omega arith, omega arith)
between (Line _ _ _) = (omega arith, omega arith)
between (Many _ _) = (omega arith, omega arith)
between (Steps _ _) = (omega arith, omega arith)
between (Unwritten _) = (omega arith, omega arith)
between OutputUnwritten = (omega arith, omega arith)
between NoMemory = (omega arith, omega arith)

never_done : (fault : CommandFault) → ¬ IsDone (status_of_fault fault)
never_done fault (inl e) = omega (arith, (between fault).0, e)
never_done fault (inr e) = omega (arith, (between fault).1, e)

done_status : (finding : Finding) → IsDone (status_of_finding finding)
done_status Nothing = inl refl
done_status Something = inr refl

one_finding : (a b : Finding) → status_of_finding a ≡ status_of_finding b → a ≡ b
one_finding Nothing Nothing e = refl
one_finding Something Something e = refl
one_finding Nothing Something e = absurd (omega (arith, e))
one_finding Something Nothing e = absurd (omega (arith, e))

never_quiet : (status : ℕ) (finding : Finding) → status ≡ status_of_finding finding → IsQuiet status → ⊥
never_quiet status Nothing is quiet = quiet.0 is
never_quiet status Something is quiet = quiet.3 is

module _ (words : List (List ℕ)) (before after : Moment) where
  -- nothing or a front was put before any fault, or what is said of one
  pub put_before : (fault : CommandFault) → MeetsFault words before after fault →
      (PutsNothing before after ⊎ PutsFront words before after) ⊎ ((why : CommandFault) × SaysWhy words before after why)
  put_before _ (MeetsFault.in_words not untouched) = inl (inl untouched.put)
  put_before _ (MeetsFault.in_run said comes untouched) = inl (inl untouched.put)
  put_before _ (MeetsFault.in_nodes said named prepared lacks put same) = inl (inl put)
  put_before _ (MeetsFault.in_loading said loaded plain comes untouched) = inl (inl untouched.put)
  put_before _ (MeetsFault.in_asking said loaded asks refuses untouched) = inl (inl untouched.put)
  put_before _ (MeetsFault.in_workload said holds comes untouched) = inl (inl untouched.put)
  put_before _ (MeetsFault.in_output rose same front) = inl (inr front)
  put_before _ (MeetsFault.in_writing {run = run} {plan = plan} {outputs = outputs} {outcomes = outcomes} fails reports passed) =
      inl (inr (reported_front words before after run plan fails.said outputs outcomes reports))
  put_before _ (MeetsFault.in_saving {run = run} {plan = plan} {outputs = outputs} {outcomes = outcomes} fails passed) =
      inl (inr (reported_front words before after run plan fails.said outputs outcomes fails.reports))
  put_before _ (MeetsFault.in_memory put kept) = inl put
  put_before _ (MeetsFault.in_explaining {fault = fault} why) = inr (fault, why)
  put_before _ (MeetsFault.in_saying {fault = fault} why) = inr (fault, why)

  -- nor did a file change before any, unless a write failed, or memory ran out between two, and then the status is 1
  pub leaves : (status : ℕ) (fault : CommandFault) → MeetsFault words before after fault → (fault ≡ NoMemory → status ≡ 1) → LeavesFiles words before after status
  leaves status _ (MeetsFault.in_words not untouched) memory = LeavesFiles.unchanged untouched.files
  leaves status _ (MeetsFault.in_run said comes untouched) memory = LeavesFiles.unchanged untouched.files
  leaves status _ (MeetsFault.in_nodes said named prepared lacks put same) memory = LeavesFiles.unchanged same
  leaves status _ (MeetsFault.in_loading said loaded plain comes untouched) memory = LeavesFiles.unchanged untouched.files
  leaves status _ (MeetsFault.in_asking said loaded asks refuses untouched) memory = LeavesFiles.unchanged untouched.files
  leaves status _ (MeetsFault.in_workload said holds comes untouched) memory = LeavesFiles.unchanged untouched.files
  leaves status _ (MeetsFault.in_output rose same front) memory = LeavesFiles.unchanged same
  leaves status _ (MeetsFault.in_writing fails reports passed) memory = LeavesFiles.at_first fails
  leaves status _ (MeetsFault.in_saving fails passed) memory = LeavesFiles.at_second fails
  leaves status _ (MeetsFault.in_memory put kept) memory = subst (LeavesFiles words before after) (sym (memory refl)) kept
  leaves status _ (MeetsFault.in_explaining why) memory = LeavesFiles.unchanged why.files
  leaves status _ (MeetsFault.in_saying why) memory = LeavesFiles.unchanged why.files

  -- memory was wanting for a fault's line
  wants_memory : (fault : CommandFault) → MeetsFault words before after fault → MeetsFault words before after NoMemory
  wants_memory fault cause = ⊎_elim (λ put. MeetsFault.in_memory put (leaves 1 fault cause (λ e. refl))) (λ why. MeetsFault.in_saying why.1) (put_before fault cause)

  -- with a quiet status no text was put, no file changed, and the table of connections was asked nothing, unless it had no node
  pub record StaysQuiet (status : ℕ) : Type 0 where
    pub put : PutsNoText words before after
    pub files : ChangesNoFile before after
    pub idle : (after.pass ≡ before.pass) ⊎ RanOutOfNodes before.pass after.pass status

  stays_quiet : {status : ℕ} → IsUntouched before after → StaysQuiet status
  stays_quiet untouched = record { put = inl untouched.put; files = untouched.files; idle = inl untouched.idle }

  quiet_by : (status : ℕ) (fault : CommandFault) → MeetsFault words before after fault → status ≡ status_of_fault fault → IsQuiet status → StaysQuiet status
  quiet_by status _ (MeetsFault.in_words not untouched) is quiet = stays_quiet untouched
  quiet_by status _ (MeetsFault.in_run said comes untouched) is quiet = stays_quiet untouched
  quiet_by status _ (MeetsFault.in_nodes said named prepared lacks put same) is quiet =
      record { put = inl put; files = same; idle = inr (record { status_is = is; sweeps = lacks.lacks.2.sweeps }) }
  quiet_by status _ (MeetsFault.in_loading said loaded plain comes untouched) is quiet = stays_quiet untouched
  quiet_by status _ (MeetsFault.in_asking said loaded asks refuses untouched) is quiet = stays_quiet untouched
  quiet_by status _ (MeetsFault.in_workload said holds comes untouched) is quiet = stays_quiet untouched
  quiet_by status _ (MeetsFault.in_output rose same front) is quiet = absurd (quiet.2 is)
  quiet_by status _ (MeetsFault.in_writing fails reports passed) is quiet = absurd (quiet.2 is)
  quiet_by status _ (MeetsFault.in_saving fails passed) is quiet = absurd (quiet.2 is)
  quiet_by status _ (MeetsFault.in_memory put kept) is quiet = absurd (quiet.1 is)
  quiet_by status _ (MeetsFault.in_explaining {fault = fault} why) is quiet = record { put = inr (fault, why); files = why.files; idle = inl why.idle }
  quiet_by status _ (MeetsFault.in_saying why) is quiet = absurd (quiet.1 is)

  module _ (old new : SinkMoment) (status : ℕ) where
    -- what was said of a fault with its cause is an answer
    pub said_fault : (fault : CommandFault) → MeetsFault words before after fault → SaysFault old new fault status → AnswersWords words before after old new status
    said_fault fault cause (SaysFault.told is line passed) =
        AnswersWords.refused (record { fault = fault; status_is = is; cause = cause; line = inl line; flushed = λ not. passed })
    said_fault fault cause (SaysFault.untold memory put) = AnswersWords.refused (record {
      fault = NoMemory;
      status_is = memory;
      cause = wants_memory fault cause;
      line = inr (record { memory = memory; put = put });
      flushed = λ not. absurd (not memory);
    })

    pub was_done : AnswersWords words before after old new status → (finding : Finding) → status ≡ status_of_finding finding → DoesWords words finding before after
    was_done (AnswersWords.done {finding = found} is does flushed silent) finding at =
        subst (λ (it : Finding). DoesWords words it before after) (one_finding found finding (sym is ∙ at)) does
    was_done (AnswersWords.refused faulted) finding at = absurd (never_done faulted.fault (subst IsDone (sym at ∙ faulted.status_is) (done_status finding)))

    pub was_put : AnswersWords words before after old new status → IsDone status → (after.out.waiting ≡ 0) × Appends old.held new.held []
    was_put (AnswersWords.done is does flushed silent) done = (flushed, silent)
    was_put (AnswersWords.refused faulted) done = absurd (never_done faulted.fault (subst IsDone faulted.status_is done))

    pub was_refused : AnswersWords words before after old new status → ¬ IsDone status → IsFaulted words before after old new status
    was_refused (AnswersWords.done {finding = found} is does flushed silent) not = absurd (not (subst IsDone (sym is) (done_status found)))
    was_refused (AnswersWords.refused faulted) not = faulted

    pub was_quiet : AnswersWords words before after old new status → IsQuiet status → StaysQuiet status
    was_quiet (AnswersWords.done {finding = found} is does flushed silent) quiet = absurd (never_quiet status found is quiet)
    was_quiet (AnswersWords.refused faulted) quiet = quiet_by status faulted.fault faulted.cause faulted.status_is quiet

    pub was_kept : AnswersWords words before after old new status → ¬ IsDone status → LeavesFiles words before after status
    was_kept answers not =
        let faulted = was_refused answers not in
        leaves status faulted.fault faulted.cause (λ e. faulted.status_is ∙ ap status_of_fault e)

    -- words that are no command line are refused
    pub refuses_usage : is_command_line words ≡ false → AnswersWords words before after old new status → HasStatus 2 status
    refuses_usage not (AnswersWords.done zero does flushed silent) = absurd (false≢true (sym not ∙ does.said.taken))
    refuses_usage not (AnswersWords.refused faulted) = by faulted.fault faulted.cause faulted.status_is where
      by : (fault : CommandFault) → MeetsFault words before after fault → status ≡ status_of_fault fault → HasStatus 2 status
      by _ (MeetsFault.in_words not_either untouched) is = inl is
      by _ (MeetsFault.in_run said comes untouched) is = absurd (false≢true (sym not ∙ said.taken))
      by _ (MeetsFault.in_nodes said named prepared lacks put same) is = absurd (false≢true (sym not ∙ said.taken))
      by _ (MeetsFault.in_loading said loaded plain comes untouched) is = absurd (false≢true (sym not ∙ said.taken))
      by _ (MeetsFault.in_asking said loaded asks refuses untouched) is = absurd (false≢true (sym not ∙ said.taken))
      by _ (MeetsFault.in_workload said holds comes untouched) is = absurd (false≢true (sym not ∙ said.taken))
      by _ (MeetsFault.in_output rose same front) is = absurd (false≢true (sym not ∙ front.said.taken))
      by _ (MeetsFault.in_writing fails reports passed) is = absurd (false≢true (sym not ∙ fails.said.taken))
      by _ (MeetsFault.in_saving fails passed) is = absurd (false≢true (sym not ∙ fails.said.taken))
      by _ (MeetsFault.in_memory put kept) is = inr is
      by _ (MeetsFault.in_explaining why) is = absurd (false≢true (sym not ∙ why.said.taken))
      by _ (MeetsFault.in_saying why) is = inr is
