-- What a worker's chain of packets adds to its pass's history.
use Rattle.std.proofs.Common.{◌≡◌, ◌≢◌, ◌⊎◌, ℕ, ◌≤◌, Bool, true, false, List, [], ◌∷◌, ◌++◌, map, refl, sym, ap, subst, ◌∙◌, ⊎_elim, inl, inr, Option, Some, None}
use Rattle.std.{proofs.lemmas.List.{append_assoc, append-nil}, specs.{List.Contains, Prelude.not}}
use Rattle.std.proofs.lemmas.{List.Elements.{Contains-append_cases, Contains-append_left, Contains-append_right}, Bool.false_from_ne_true}
use Rattle.npf_shelf.proofs.ListLemmas.{Contains-first, Contains-later, Contains-filter_from, Contains-nil, Contains-cons_cases}
use Rattle.npf_core.specs.{History.{Legal, IsPrefix, by}, declared.act.Act.TheVariants.{Claim, Look, Hold, Start, Step, Kill, Unhold, Free}}
use Rattle.npf_core.proofs.HistoryLemmas.{IsPrefix-self, IsPrefix-trans, Legal-prefix, by-append}
use Rattle.npf_connections.specs.{Pass.{Pass, IsPass}, Said.under}
use Rattle.npf_flow.specs.Flows.{flow_law}
use Rattle.npf_model.specs.Configuration.{Configuration}
use Rattle.npf_publish.specs.{declared.{conf_reader.ConfReader.ConfReader, number_range.NumberRange.NumberRange}, ConfReader.{reader_range, least_number}}
use Rattle.npf_publish.specs.NumberRange.{IsInRange}
use Rattle.npf_engine_opening.specs.Saying.{FlowSaid}
use Rattle.npf_engine.specs.{declared.outcome.Outcome.Outcome, Arrival.Arrival, Explains.{Explains, Sight}}
use Rattle.npf_engine.specs.Handles.{Asks, Handles, IsExplained, CarryHereAlone}
use Rattle.npf_engine.specs.{Histories.{FlowAct, FlowEntry, History, carries, entries_after, entries_of, is_unhold, told}, Outcome.{passes, sent_of}}
use Rattle.npf_engine.proofs.LongerLemmas.{none_in_front}
use Rattle.npf_runner_passes.proofs.NumberLemmas.{stands_by}
use Rattle.npf_runner.specs.{Job.{Handled, Job, job_arrival}, Plays.{GivesBack, IsBefore}, Works.{IsHandled, WorksThrough}}
use Rattle.npf_runner.proofs.CarryLemmas.{CarryNone, none_carried, not_both, IsUnder, is_under}

abbrev pub numbers_of : List Job → List ℕ
numbers_of = map (λ (job : Job). job.number)

-- each number once
abbrev pub Apart : List ℕ → Type 0
Apart [] = Unit {0}
Apart (n ∷ ns) = ¬ Contains ns n × Apart ns

-- of each two of these numbers the earlier one's packet stands before the later one's
abbrev pub InTurn : History → List ℕ → Type 0
InTurn history [] = Unit {0}
InTurn history (n ∷ ns) = ((m : ℕ) → Contains ns m → IsBefore history n m) × InTurn history ns

-- a reader whose least number is this one read these numbers, in order
abbrev pub ReadsOn : NumberRange → ℕ → List (Option ℕ) → Type 0
ReadsOn range least [] = Unit {0}
ReadsOn range least (None ∷ asked) = ReadsOn range least asked
ReadsOn range least (Some number ∷ asked) = IsInRange number range × (least ≤ number) × ReadsOn range number asked

reads_more : (old new : ConfReader) (asks : Option ℕ) (asked : List (Option ℕ)) → Asks old new asks → ReadsOn (reader_range new) (least_number new) asked →
    ReadsOn (reader_range old) (least_number old) (asks ∷ asked)
reads_more old new None asked a rest = subst (λ range. ReadsOn range (least_number old) asked) a.0 (subst (λ n. ReadsOn (reader_range new) n asked) a.1 rest)
reads_more old new (Some number) asked a rest =
    (a.within, a.rises, subst (λ range. ReadsOn range number asked) a.range (subst (λ n. ReadsOn (reader_range new) n asked) a.least rest))

-- what explains a packet's outcome carries no other packet's number
abbrev pub SaysOwn : Type 0
SaysOwn =
    (configs : List Configuration) (sight : Sight) (arrival : Arrival) (asked : Option ℕ) (said : List FlowSaid) (outcome : Outcome) (sent : Option (List ℕ)) →
    Explains configs sight arrival asked said outcome sent → (what : FlowSaid) (n : ℕ) → Contains said what → carries n what.act ≡ true → n ≡ arrival.number

-- the explanation in a longer history, whose entries of the packet are those that were said
pub record IsTold (configs : List Configuration) (slots seat : ℕ) (history end : History) (arrival : Arrival)
    (asked : Option ℕ) (said : List FlowSaid) (outcome : Outcome) (sent : Option (List ℕ)) : Type 0 where
  pub explained : IsExplained configs slots history end arrival asked outcome sent
  pub entries : entries_of arrival.number history ≡ under seat (told said)

abbrev pub TellsInLonger : Type 0
TellsInLonger =
    (configs : List Configuration) (old new : Pass FlowEntry) (reader next : ConfReader) (arrival : Arrival) (outcome : Outcome) (sent : Option (List ℕ))
    (history end : History) → IsPass flow_law old → IsPass flow_law new → Legal flow_law old.slots history →
    CarryHereAlone arrival.number old new history → IsPrefix new.history end → IsPrefix end history →
    (h : Handles configs old new reader next arrival outcome sent) →
    IsTold configs old.slots old.number history end arrival h.asked h.said outcome sent

-- the history of a pass went on by entries of which its own carry these numbers alone
pub record WentOn (old new : Pass FlowEntry) (ns : List ℕ) : Type 0 where
  pub rest : History
  pub goes_on : new.history ≡ old.history ++ rest
  pub number : new.number ≡ old.number
  pub own : (entry : FlowEntry) (n : ℕ) → Contains rest entry → entry.seat ≡ old.number → carries n entry.act ≡ true → Contains ns n

-- an entry of a seat stands among those of the seat
pub own_entry : (seat : ℕ) (xs : History) (entry : FlowEntry) → Contains xs entry → entry.seat ≡ seat → Contains (by seat xs) entry
own_entry seat xs entry c is = subst (λ n. Contains (by n xs) entry) is (stands_by xs entry c)

module _ (says : SaysOwn) (configs : List Configuration) where
  -- one packet
  module _ (old mid : Pass FlowEntry) (reader between : ConfReader) (job : Job) (done : Handled) (h : IsHandled configs old mid reader between job done) where
    pub step_own : (entry : FlowEntry) (n : ℕ) → Contains h.handles.did.adds.rest entry → entry.seat ≡ old.number → carries n entry.act ≡ true → n ≡ job.number
    step_own entry n c seat carry =
        let mine = subst (λ (es : History). Contains es entry) h.handles.did.adds.own (own_entry old.number h.handles.did.adds.rest entry c seat) in
        let u = is_under old.number h.handles.said entry mine in
        let act : carries n u.what.act ≡ true = ap (λ (e : FlowEntry). carries n e.act) (sym u.is) ∙ carry in
        says configs _ (job_arrival job) h.handles.asked h.handles.said done.outcome _ h.handles.explains u.what n u.stands act

  pub went_on : (old : Pass FlowEntry) (reader : ConfReader) (jobs : List Job) (new : Pass FlowEntry) (next : ConfReader) (dones : List Handled) →
      WorksThrough configs old reader jobs new next dones → WentOn old new (numbers_of jobs)
  went_on old reader [] new next [] w = record {
    rest = [];
    goes_on = ap (λ (p : Pass FlowEntry). p.history) (sym w.0) ∙ sym (append-nil old.history);
    number = ap (λ (p : Pass FlowEntry). p.number) (sym w.0);
    own = λ entry n c seat carry. absurd (Contains-nil entry c);
  }
  went_on old reader [] new next (done ∷ dones) w = absurd w
  went_on old reader (job ∷ jobs) new next [] w = absurd w
  went_on old reader (job ∷ jobs) new next (done ∷ dones) w =
      let mid = w.0 in
      let h = w.2 in
      let first = h.handles.did in
      let later = went_on mid w.1 jobs new next dones w.3 in
      record {
        rest = first.adds.rest ++ later.rest;
        goes_on = later.goes_on ∙ (ap (λ (es : History). es ++ later.rest) first.adds.goes_on ∙ append_assoc old.history first.adds.rest later.rest);
        number = later.number ∙ first.later.number;
        own = λ entry n c seat carry. ⊎_elim
            (λ d. subst (λ m. Contains (job.number ∷ numbers_of jobs) m) (sym (step_own old mid reader w.1 job done h entry n d seat carry)) (Contains-first job.number (numbers_of jobs)))
            (λ d. Contains-later job.number n (numbers_of jobs) (later.own entry n d (seat ∙ sym first.later.number) carry))
            (Contains-append_cases first.adds.rest later.rest entry c);
      }

  -- what is shown of one packet in the history
  pub record Answer (slots : ℕ) (history end : History) (seat : ℕ) (job : Job) (asked : Option ℕ) (done : Handled) : Type 0 where
    pub said : List FlowSaid
    pub told : IsTold configs slots seat history end (job_arrival job) asked said done.outcome (sent_of done.outcome done.packet.bytes)
    pub kept : passes done.outcome ≡ false → done.packet.bytes ≡ job.packet.bytes
    pub same : done.packet ≡ record job.packet { bytes = done.packet.bytes }

  -- what is shown of several
  abbrev pub Answers : ℕ → History → History → ℕ → List Job → List (Option ℕ) → List Handled → Type 0
  Answers slots history end seat [] [] [] = Unit {0}
  Answers slots history end seat (job ∷ jobs) (asks ∷ asked) (done ∷ dones) = Answer slots history end seat job asks done × Answers slots history end seat jobs asked dones
  Answers slots history end seat _ _ _ = ⊥

  -- the entry gives a key or a slot back, or is one of a packet of these numbers
  abbrev pub Covered : History → List ℕ → FlowEntry → Type 0
  Covered history ns entry = GivesBack entry ⊎ ((n : ℕ) × Contains ns n × Contains (entries_of n history) entry)

  -- the entries of a pass of this number are those that it had, and such
  abbrev pub Covers : History → ℕ → List ℕ → Pass FlowEntry → Pass FlowEntry → Type 0
  Covers history seat ns old new = (entry : FlowEntry) → Contains (by seat new.history) entry → Contains (by seat old.history) entry ⊎ Covered history ns entry

  unhold_gives : (entry : FlowEntry) (act : FlowAct) → entry.act ≡ act → is_unhold act ≡ true → GivesBack entry
  unhold_gives entry (Claim packet slot) e is = absurd cc
  unhold_gives entry (Look packet key) e is = absurd cc
  unhold_gives entry (Hold id key way) e is = absurd cc
  unhold_gives entry (Start id packet init) e is = absurd cc
  unhold_gives entry (Step packet id way arg) e is = absurd cc
  unhold_gives entry (Kill id why) e is = absurd cc
  unhold_gives entry (Unhold id way) e is = inl (id, way, e)
  unhold_gives entry (Free id) e is = absurd cc

  in_under : (seat : ℕ) (said : List FlowSaid) (what : FlowSaid) → Contains said what → Contains (under seat said) (record { seat = seat; act = what.act; reply = what.reply })
  in_under seat [] what c = absurd (Contains-nil what c)
  in_under seat (x ∷ xs) what c = ⊎_elim
      (λ (e : x ≡ what). subst (λ (w : FlowSaid). Contains (under seat (x ∷ xs)) (record { seat = seat; act = w.act; reply = w.reply })) e
      (Contains-first (record { seat = seat; act = x.act; reply = x.reply }) (under seat xs)))
      (λ d. Contains-later (record { seat = seat; act = x.act; reply = x.reply }) (record { seat = seat; act = what.act; reply = what.reply }) (under seat xs) (in_under seat xs what d))
      (Contains-cons_cases x what xs c)

  -- what was said for a packet is given back, or one of its entries
  said_covered : (slots : ℕ) (history end : History) (seat : ℕ) (ns : List ℕ) (arrival : Arrival) (asked : Option ℕ) (said : List FlowSaid) (outcome : Outcome) (sent : Option (List ℕ)) →
      IsTold configs slots seat history end arrival asked said outcome sent → Contains ns arrival.number → (entry : FlowEntry) → Contains (under seat said) entry → Covered history ns entry
  said_covered slots history end seat ns arrival asked said outcome sent t listed entry c = by_test (is_unhold u.what.act) refl
    where
      u : IsUnder seat said entry
      u = is_under seat said entry c

      by_test : (test : Bool) → is_unhold u.what.act ≡ test → Covered history ns entry
      by_test true is = inl (unhold_gives entry u.what.act (ap (λ (e : FlowEntry). e.act) u.is) is)
      by_test false is =
          let kept : Contains (told said) u.what = Contains-filter_from (λ (w : FlowSaid). not (is_unhold w.act)) said u.what u.stands (ap not is) in
          inr (
            arrival.number,
            listed,
            subst (λ (es : History). Contains es entry) (sym t.entries)
                (subst (λ (e : FlowEntry). Contains (under seat (told said)) e) (sym u.is) (in_under seat (told said) u.what kept)),
          )

  -- what is known of a history in which a pass of this number did this
  pub record Shows (slots : ℕ) (history end : History) (seat : ℕ) (ns : List ℕ) (new : Pass FlowEntry) : Type 0 where
    pub legal : Legal flow_law slots history
    pub ends : IsPrefix end history
    pub within : IsPrefix new.history end
    pub behind : History
    pub goes_on : history ≡ new.history ++ behind
    pub quiet : CarryNone (Contains ns) behind
    pub others : (entry : FlowEntry) (n : ℕ) → Contains history entry → entry.seat ≢ seat → Contains ns n → carries n entry.act ≡ false

  module _ (tells : TellsInLonger) (slots : ℕ) (history end : History) (seat : ℕ) where
    fewer : (n : ℕ) (ns : List ℕ) (new : Pass FlowEntry) → Shows slots history end seat (n ∷ ns) new → Shows slots history end seat ns new
    fewer n ns new s = record {
      legal = s.legal;
      ends = s.ends;
      within = s.within;
      behind = s.behind;
      goes_on = s.goes_on;
      quiet = λ entry m c is. s.quiet entry m c (Contains-later n m ns is);
      others = λ entry m c apart is. s.others entry m c apart (Contains-later n m ns is);
    }

    -- an entry of a part of the history carries the number only where the seat's own do
    by_seat : (ns : List ℕ) (n : ℕ) (new : Pass FlowEntry) (entry : FlowEntry) → Shows slots history end seat ns new → Contains history entry → Contains ns n →
        (entry.seat ≡ seat → carries n entry.act ≡ false) → carries n entry.act ≡ false
    by_seat ns n new entry s c is own = false_from_ne_true (carries n entry.act)
        (λ yes. not_both (carries n entry.act) yes (s.others entry n c (λ e. not_both (carries n entry.act) yes (own e)) is))

    module _ (old mid new : Pass FlowEntry) (reader between next : ConfReader) (job : Job) (jobs : List Job) (done : Handled) (dones : List Handled)
        (h : IsHandled configs old mid reader between job done) (rest : WentOn mid new (numbers_of jobs)) (s : Shows slots history end seat (job.number ∷ numbers_of jobs) new)
        (own : old.number ≡ seat) (apart : ¬ Contains (numbers_of jobs) job.number) where
      -- the whole history from before the packet on
      parts : history ≡ (old.history ++ h.handles.did.adds.rest) ++ (rest.rest ++ s.behind)
      parts = s.goes_on ∙ (ap (λ (es : History). es ++ s.behind) (rest.goes_on ∙ ap (λ (es : History). es ++ rest.rest) h.handles.did.adds.goes_on)
          ∙ append_assoc (old.history ++ h.handles.did.adds.rest) rest.rest s.behind)

      in_step : (entry : FlowEntry) → Contains h.handles.did.adds.rest entry → Contains history entry
      in_step entry c = rw parts (Contains-append_left (old.history ++ h.handles.did.adds.rest) (rest.rest ++ s.behind) entry
          (Contains-append_right old.history h.handles.did.adds.rest entry c))

      in_rest : (entry : FlowEntry) → Contains rest.rest entry → Contains history entry
      in_rest entry c = rw parts (Contains-append_right (old.history ++ h.handles.did.adds.rest) (rest.rest ++ s.behind) entry
          (Contains-append_left rest.rest s.behind entry c))

      in_mid : (entry : FlowEntry) → Contains mid.history entry → Contains history entry
      in_mid entry c = rw parts (Contains-append_left (old.history ++ h.handles.did.adds.rest) (rest.rest ++ s.behind) entry
          (subst (λ (es : History). Contains es entry) h.handles.did.adds.goes_on c))

      later_quiet : CarryNone (λ n. n ≡ job.number) (rest.rest ++ s.behind)
      later_quiet entry n c is = rw is (⊎_elim
          (λ d. by_seat (job.number ∷ numbers_of jobs) job.number new entry s (in_rest entry d) (Contains-first job.number (numbers_of jobs))
          (λ mine. false_from_ne_true (carries job.number entry.act) (λ yes. apart (rest.own entry job.number d (mine ∙ (sym own ∙ sym h.handles.did.later.number)) yes))))
          (λ d. s.quiet entry job.number d (Contains-first job.number (numbers_of jobs)))
          (Contains-append_cases rest.rest s.behind entry c))

      alone : CarryNone (Contains (job.number ∷ numbers_of jobs)) old.history → CarryHereAlone job.number old mid history
      alone before = record {
        later = rest.rest ++ s.behind;
        goes_on = parts ∙ ap (λ (es : History). es ++ (rest.rest ++ s.behind)) (sym h.handles.did.adds.goes_on);
        before = none_carried (Contains (job.number ∷ numbers_of jobs)) old.history job.number before (Contains-first job.number (numbers_of jobs));
        behind = none_carried (λ n. n ≡ job.number) (rest.rest ++ s.behind) job.number later_quiet refl;
        others = λ entry c other. s.others entry job.number (in_mid entry c) (λ e. other (e ∙ sym own)) (Contains-first job.number (numbers_of jobs));
      }

      -- before the next packet no other of them has an entry
      before_next : CarryNone (Contains (job.number ∷ numbers_of jobs)) old.history → CarryNone (Contains (numbers_of jobs)) mid.history
      before_next before entry n c is = ⊎_elim
          (λ d. before entry n d (Contains-later job.number n (numbers_of jobs) is))
          (λ d. by_seat (job.number ∷ numbers_of jobs) n new entry s (in_step entry d) (Contains-later job.number n (numbers_of jobs) is)
          (λ mine. false_from_ne_true (carries n entry.act) (λ yes. apart
          (subst (λ m. Contains (numbers_of jobs) m) (step_own old mid reader between job done h entry n d (mine ∙ sym own) yes) is))))
          (Contains-append_cases old.history h.handles.did.adds.rest entry (subst (λ (es : History). Contains es entry) h.handles.did.adds.goes_on c))

      mid_within : IsPrefix mid.history end
      mid_within = IsPrefix-trans mid.history new.history end (record { rest = rest.rest; goes_on = rest.goes_on }) s.within

      tells_here : IsPass flow_law old → old.slots ≡ slots → CarryNone (Contains (job.number ∷ numbers_of jobs)) old.history →
          IsTold configs slots seat history end (job_arrival job) h.handles.asked h.handles.said done.outcome (sent_of done.outcome done.packet.bytes)
      tells_here legal sized before =
          subst (λ n. IsTold configs slots n history end (job_arrival job) h.handles.asked h.handles.said done.outcome (sent_of done.outcome done.packet.bytes)) own
          (subst (λ n. IsTold configs n old.number history end (job_arrival job) h.handles.asked h.handles.said done.outcome (sent_of done.outcome done.packet.bytes)) sized
          (tells configs old mid reader between (job_arrival job) done.outcome (sent_of done.outcome done.packet.bytes) history end legal h.rested.legal
          (subst (λ n. Legal flow_law n history) (sym sized) s.legal) (alone before) mid_within s.ends h.handles))

      -- where the pass is done with the packet, all the packet's entries stand
      done_by_mid : IsPass flow_law old → old.slots ≡ slots → CarryNone (Contains (job.number ∷ numbers_of jobs)) old.history →
          entries_of job.number mid.history ≡ entries_of job.number history
      done_by_mid legal sized before =
          let here = alone before in
          let at_mid = tells configs old mid reader between (job_arrival job) done.outcome (sent_of done.outcome done.packet.bytes) mid.history mid.history legal h.rested.legal
          (Legal-prefix flow_law old.slots mid.history history (record { rest = here.later; goes_on = here.goes_on }) (subst (λ n. Legal flow_law n history) (sym sized) s.legal))
          (record { later = []; goes_on = sym (append-nil mid.history); before = here.before; behind = refl; others = here.others })
          (IsPrefix-self mid.history) (IsPrefix-self mid.history) h.handles in
          at_mid.entries ∙ (ap (λ n. under n (told h.handles.said)) own ∙ sym (tells_here legal sized before).entries)

      -- and none of the later ones'
      before_later : IsPass flow_law old → old.slots ≡ slots → CarryNone (Contains (job.number ∷ numbers_of jobs)) old.history →
          (m : ℕ) → Contains (numbers_of jobs) m → IsBefore history job.number m
      before_later legal sized before m c = record {
        point = mid.history;
        begins = record { rest = (alone before).later; goes_on = (alone before).goes_on };
        done = done_by_mid legal sized before;
        none_yet = subst (λ (es : History). entries_after m [] es ≡ []) (append-nil mid.history)
            (none_in_front m mid.history [] (none_carried (Contains (numbers_of jobs)) mid.history m (before_next before) c));
      }

      answer : IsPass flow_law old → old.slots ≡ slots → CarryNone (Contains (job.number ∷ numbers_of jobs)) old.history → Answer slots history end seat job h.handles.asked done
      answer legal sized before = record {
        said = h.handles.said;
        told = tells_here legal sized before;
        kept = h.kept;
        same = h.same;
      }

    covers_more : (old mid new : Pass FlowEntry) (reader between : ConfReader) (job : Job) (ns : List ℕ) (done : Handled) (h : IsHandled configs old mid reader between job done) →
        old.number ≡ seat → IsTold configs slots seat history end (job_arrival job) h.handles.asked h.handles.said done.outcome (sent_of done.outcome done.packet.bytes) →
        Covers history seat ns mid new → Covers history seat (job.number ∷ ns) old new
    covers_more old mid new reader between job ns done h own t later entry c = ⊎_elim
        (λ d. ⊎_elim (λ o. inl o)
        (λ u. inr (said_covered slots history end seat (job.number ∷ ns) (job_arrival job) h.handles.asked h.handles.said done.outcome (sent_of done.outcome done.packet.bytes) t
        (Contains-first job.number ns) entry u))
        (Contains-append_cases (by seat old.history) (under seat h.handles.said) entry (subst (λ (es : History). Contains es entry) went d)))
        (λ cov. inr (⊎_elim (λ b. inl b) (λ (x : (n : ℕ) × Contains ns n × Contains (entries_of n history) entry). inr (x.0, Contains-later job.number x.0 ns x.1, x.2)) cov))
        (later entry c)
      where
        went : by seat mid.history ≡ by seat old.history ++ under seat h.handles.said
        went = ap (by seat) h.handles.did.adds.goes_on
            ∙ (by-append seat old.history h.handles.did.adds.rest
            ∙ ap (λ es. by seat old.history ++ es) (subst (λ n. by n h.handles.did.adds.rest ≡ under n h.handles.said) own h.handles.did.adds.own))

    -- each packet of a worker is explained
    pub answers : (old new : Pass FlowEntry) (reader next : ConfReader) (jobs : List Job) (dones : List Handled) → WorksThrough configs old reader jobs new next dones →
        IsPass flow_law old → old.slots ≡ slots → old.number ≡ seat → Apart (numbers_of jobs) → Shows slots history end seat (numbers_of jobs) new →
        CarryNone (Contains (numbers_of jobs)) old.history →
        (asked : List (Option ℕ)) × Answers slots history end seat jobs asked dones × ReadsOn (reader_range reader) (least_number reader) asked
        × Covers history seat (numbers_of jobs) old new
    answers old new reader next [] [] w legal sized own apart s before = ([], tt, tt, λ entry c. inl (subst (λ (p : Pass FlowEntry). Contains (by seat p.history) entry) (sym w.0) c))
    answers old new reader next [] (done ∷ dones) w legal sized own apart s before = absurd w
    answers old new reader next (job ∷ jobs) [] w legal sized own apart s before = absurd w
    answers old new reader next (job ∷ jobs) (done ∷ dones) w legal sized own apart s before =
        let mid = w.0 in
        let h = w.2 in
        let rest = went_on mid w.1 jobs new next dones w.3 in
        let later = answers mid new w.1 next jobs dones w.3 h.rested.legal (h.rested.later.slots ∙ sized) (h.rested.later.number ∙ own) apart.1
        (fewer job.number (numbers_of jobs) new s) (before_next old mid new reader w.1 next job jobs done dones h rest s own apart.0 before) in
        let here = answer old mid new reader w.1 next job jobs done dones h rest s own apart.0 legal sized before in (
          h.handles.asked ∷ later.0,
          (here, later.1),
          reads_more reader w.1 h.handles.asked later.0 h.handles.asks later.2,
          covers_more old mid new reader w.1 job (numbers_of jobs) done h own (tells_here old mid new reader w.1 next job jobs done dones h rest s own apart.0 legal sized before) later.3,
        )

    -- a worker's packets are taken in turn
    pub takes_in_turn : (old new : Pass FlowEntry) (reader next : ConfReader) (jobs : List Job) (dones : List Handled) → WorksThrough configs old reader jobs new next dones →
        IsPass flow_law old → old.slots ≡ slots → old.number ≡ seat → Apart (numbers_of jobs) → Shows slots history end seat (numbers_of jobs) new →
        CarryNone (Contains (numbers_of jobs)) old.history → InTurn history (numbers_of jobs)
    takes_in_turn old new reader next [] dones w legal sized own apart s before = tt
    takes_in_turn old new reader next (job ∷ jobs) [] w legal sized own apart s before = absurd w
    takes_in_turn old new reader next (job ∷ jobs) (done ∷ dones) w legal sized own apart s before =
        let mid = w.0 in
        let h = w.2 in
        let rest = went_on mid w.1 jobs new next dones w.3 in (
          before_later old mid new reader w.1 next job jobs done dones h rest s own apart.0 legal sized before,
          takes_in_turn mid new w.1 next jobs dones w.3 h.rested.legal (h.rested.later.slots ∙ sized) (h.rested.later.number ∙ own) apart.1
              (fewer job.number (numbers_of jobs) new s) (before_next old mid new reader w.1 next job jobs done dones h rest s own apart.0 before),
        )
