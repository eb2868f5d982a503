-- A phase that ran plays, in each history in which it stands.
use Rattle.std.proofs.Common.{◌≡◌, ◌⊎◌, ℕ, ◌≤◌, ◌<◌, ◌+◌, List, [], ◌∷◌, ◌++◌, Option, map, length, sym, ap, subst, ◌∙◌, ⊎_elim, inl, inr, arith}
use Rattle.std.{specs.List.{Contains, Sorted.IsNonDecreasing}, proofs.lemmas.List.{append_assoc, length-map}}
use Rattle.std.proofs.lemmas.List.Elements.{Contains-append_cases, Contains-append_left, Contains-append_right}
use Rattle.npf_shelf.proofs.ListLemmas.{Contains-nil, Contains-cons_cases}
use Rattle.npf_core.specs.{declared.{act.Why.TheVariants.Expired, conn_id.ConnId.ConnId}, History.{Legal, IsPrefix, by, state_from, state_of}}
use Rattle.npf_core.specs.Machine.{opening, stage_of, IsLive, IsAlive}
use Rattle.npf_core.proofs.HistoryLemmas.{IsPrefix-self, IsPrefix-trans, Legal-prefix, LegalFrom-rest, state_from-append}
use Rattle.npf_connections.specs.{Collecting.HasNoDead, Entries.free_entries, Expiring.{Expires, IsOneOf, WasNotDue}, Pass.{Pass, IsPass, all_places}}
use Rattle.npf_connections.specs.Worn.{ClaimsLast, last_epoch}
use Rattle.npf_flow.specs.Flows.{flow_law}
use Rattle.npf_model.specs.Configuration.{Configuration}
use Rattle.npf_publish.specs.ConfReader.{IsNewReader, least_number}
use Rattle.npf_runner_passes.specs.{Whole.IsTakenIn, Parts.IsGiven}
use Rattle.npf_runner_dealing.specs.Lanes.{of_lane}
use Rattle.npf_engine.specs.Histories.{FlowEntry, History, entries_of}
use Rattle.npf_traffic.specs.declared.{packet.Packet.Packet, phase.{Command.{Command, TheVariants.{Publish, Expire}}, Phase.Phase, Spread.Spread}}
use Rattle.npf_runner.specs.{declared.worker.{Lane.Lane, Worker.Worker}, Commands.Runs, Crew.{jobs_of, jobs_of_lane, done_of_lane, worker_of_lane}}
use Rattle.npf_runner.specs.{Job.{Handled, Job, numbered_from}, Lanes.HasWorked, Played.{outcomes_of, outputs_of}}
use Rattle.npf_runner.specs.{Plays.{AreAnswered, AreFresh, AreInTurn, GivesBack, IsExpiry, IsOfPacket, IsPhase, LeavesNoDue, PlaysPhase}, Phase.RunsPhase}
use Rattle.npf_traffic.specs.Phases.{published_by}
use Rattle.npf_runner.proofs.AnswerLemmas.{somes, asked_by_lane, reads_between, reads_rise, IsShown, answers_zip, all_between, are_answered}
use Rattle.npf_runner.proofs.{CarryLemmas.{CarryNone, in_filter}, CommandLemmas.{expiry_prefix, freed_prefix, frees_say, kill_of}}
use Rattle.npf_runner.proofs.{ExpiryLemmas.{not_killed, was_live}, LaneLemmas.{Zips, Merges, merges}, PairLemmas.at_all}
use Rattle.npf_runner.proofs.{RegatherLemmas.{AtPlace, at_place, of_none}, TaskLemmas.All-workers}
use Rattle.npf_runner.proofs.ShowLemmas.{InPhase, freed_is, phase_adds, lane_jobs, lane_done, lane_in_phase, lane_answers, lane_in_turn}
use Rattle.npf_runner.proofs.{SourceLemmas.{OfLane, shown, of_last, lane_went, source}, JobLemmas.numbered_length, TurnLemmas.turns_of_lanes}
use Rattle.npf_runner.proofs.WorksLemmas.{SaysOwn, TellsInLonger, ReadsOn, InTurn, numbers_of, own_entry}

module _ (says : SaysOwn) (tells : TellsInLonger) {P : Type 0} (view : P → Pass FlowEntry) (configs : List Configuration) (workers : ℕ) (spread : Spread) (old new : Pass FlowEntry)
    (first last : ℕ) (commands : List Command) (packets : List Packet) (dones : List Handled)
    (r : RunsPhase view configs workers spread old new last commands (numbered_from first packets) dones)
    (legal_new : IsPass flow_law new) (all : old.places ≡ all_places)
    (history behind : History) (goes_on : history ≡ new.history ++ behind) (legal : Legal flow_law old.slots history)
    (before : CarryNone (InPhase first packets) old.history) (after : CarryNone (InPhase first packets) behind) where
  abbrev pub Shown : Job → Option ℕ → Handled → Type 0
  Shown = IsShown says configs old.slots history new.history last (last + published_by commands)

  -- what a lane shows: its packets' answers, and numbers that don't fall
  pub record LaneShows (w : ℕ) : Type 0 where
    pub asked : List (Option ℕ)
    pub zips : Zips Shown (of_lane w r.order (numbered_from first packets)) asked (of_lane w r.order dones)
    pub rise : IsNonDecreasing (somes asked)

  pub lane_shows : (w : ℕ) → LaneShows w
  lane_shows w = ⊎_elim near beyond (at_place (HasWorked view configs) r.ran.begun r.ran.ended w r.ran.worked)
    where
      near : AtPlace r.ran.begun r.ran.ended w → LaneShows w
      near p =
          let a = lane_answers says view configs workers spread old new first last commands packets dones r legal_new all history behind goes_on legal before after w p.left p.right p.at tells in
          let readers = All-workers (λ (worker : Worker). IsNewReader (record { first = last; last = last + published_by commands }) worker.reader) r.ran.begun r.crew r.ran.workers r.readers in
          let reader =
          at_all (λ (lane : Lane P). IsNewReader (record { first = last; last = last + published_by commands }) lane.worker.reader) r.ran.begun r.ran.ended w p.left p.right readers p.at in
          let reads : ReadsOn (record { first = last; last = last + published_by commands }) (least_number p.left.worker.reader) a.0 =
          subst (λ range. ReadsOn range (least_number p.left.worker.reader) a.0) reader.range a.2 in
          let between = reads_between last (last + published_by commands) (least_number p.left.worker.reader) a.0 reads in
          let zips = answers_zip says configs old.slots history new.history last (last + published_by commands)
          (shown view p.left).number (jobs_of_lane p.left) a.0 (done_of_lane p.right) a.1 between in
          record {
            asked = a.0;
            zips = subst (λ js. Zips Shown js a.0 (of_lane w r.order dones)) (lane_jobs says view configs workers spread old new first last commands packets dones r w p.left p.right p.at)
                (subst (λ ds. Zips Shown (jobs_of_lane p.left) a.0 ds) (lane_done says view configs workers spread old new first last commands packets dones r w p.left p.right p.at) zips);
            rise = reads_rise last (last + published_by commands) (least_number p.left.worker.reader) a.0 reads;
          }

      beyond : length r.ran.begun ≤ w → LaneShows w
      beyond far =
          let size : length (map jobs_of r.crew) ≡ length r.ran.begun = length-map r.crew jobs_of ∙ (ap length (sym r.ran.workers) ∙ length-map r.ran.begun worker_of_lane) in
          let out : length (map jobs_of r.crew) ≤ w = omega (arith, size, far) in
          let none = of_none (length (map jobs_of r.crew)) w r.order (numbered_from first packets) r.dealt.fits out in
          let none' = of_none (length (map jobs_of r.crew)) w r.order dones r.dealt.fits out in
          record {
            asked = [];
            zips = subst (λ js. Zips Shown js [] (of_lane w r.order dones)) (sym none) (subst (λ ds. Zips Shown [] [] ds) (sym none') tt);
            rise = λ i j d le low. absurd (omega (arith, low));
          }

  pub merged : Merges Shown r.order (numbered_from first packets) dones (λ w. (lane_shows w).asked)
  merged = merges Shown r.order (numbered_from first packets) dones (λ w. (lane_shows w).asked) r.dealt.count r.gathered.count (λ w. (lane_shows w).zips)

  abbrev pub phase_asked : List (Option ℕ)
  phase_asked = merged.ys

  pub phase_answered : AreAnswered configs workers spread old.slots history new.history first packets r.order phase_asked (outcomes_of dones) (outputs_of dones)
  phase_answered = are_answered says configs old.slots history new.history last (last + published_by commands) workers spread first packets r.order merged.ys dones r.spreads merged.zips

  pub phase_fresh : AreFresh last (last + published_by commands) r.order phase_asked
  phase_fresh = record {
    each = all_between says configs old.slots history new.history last (last + published_by commands) (numbered_from first packets) merged.ys dones merged.zips;
    rises = λ worker. subst (λ ns. IsNonDecreasing ns) (sym (asked_by_lane worker r.order merged.ys ∙ ap somes (merged.each worker))) (lane_shows worker).rise;
  }

  lane_turns : (w : ℕ) → InTurn history (numbers_of (of_lane w r.order (numbered_from first packets)))
  lane_turns w = ⊎_elim near beyond (at_place (HasWorked view configs) r.ran.begun r.ran.ended w r.ran.worked)
    where
      near : AtPlace r.ran.begun r.ran.ended w → InTurn history (numbers_of (of_lane w r.order (numbered_from first packets)))
      near p = subst (λ js. InTurn history (numbers_of js)) (lane_jobs says view configs workers spread old new first last commands packets dones r w p.left p.right p.at)
          (lane_in_turn says view configs workers spread old new first last commands packets dones r legal_new all history behind goes_on legal before after w p.left p.right p.at tells)

      beyond : length r.ran.begun ≤ w → InTurn history (numbers_of (of_lane w r.order (numbered_from first packets)))
      beyond far =
          let size : length (map jobs_of r.crew) ≡ length r.ran.begun = length-map r.crew jobs_of ∙ (ap length (sym r.ran.workers) ∙ length-map r.ran.begun worker_of_lane) in
          let out : length (map jobs_of r.crew) ≤ w = omega (arith, size, far) in
          subst (λ js. InTurn history (numbers_of js)) (sym (of_none (length (map jobs_of r.crew)) w r.order (numbered_from first packets) r.dealt.fits out)) tt

  pub phase_in_turn : AreInTurn history first r.order
  phase_in_turn = turns_of_lanes history r.order first packets (sym (numbered_length first packets) ∙ r.dealt.count) lane_turns

  -- nothing is left Dead
  pub phase_clean : (final : Pass FlowEntry) → new.epoch ≤ final.epoch → final.epoch < last_epoch → ¬ ClaimsLast new.history → HasNoDead (state_of flow_law new.history)
  phase_clean final epoch early unclaimed =
      r.ran.collects.clean (ap (λ (p : Pass FlowEntry). p.places) r.ran.collects.view.view ∙ (ap (λ (p : Pass FlowEntry). p.places) r.ran.is_whole.left ∙ all))
      (λ worn. ⊎_elim (λ (e : new.epoch ≡ last_epoch). absurd (omega (arith, e, epoch, early))) (λ (c : ClaimsLast new.history). unclaimed c) worn)

  -- each entry that the phase made is a packet's, an expiry's, or gives back
  pub phase_only : (entry : FlowEntry) → Contains (r.ran.is_whole.added ++ free_entries r.ran.whole r.ran.collects.frees.ids) entry →
      IsOfPacket history first (length packets) entry ⊎ IsExpiry commands entry ⊎ GivesBack entry
  phase_only entry c = ⊎_elim
      (λ d. ⊎_elim of_lane_entry (λ said. inr said) (source view says configs old new commands r.crew r.lanes r.ran entry d))
      (λ f. let back = frees_say r.ran.whole r.ran.collects.frees.ids entry f in inr (inr (inr back)))
      (Contains-append_cases r.ran.is_whole.added (free_entries r.ran.whole r.ran.collects.frees.ids) entry c)
    where
      of_lane_entry : OfLane view says configs old new commands r.crew r.lanes r.ran entry → IsOfPacket history first (length packets) entry ⊎ IsExpiry commands entry ⊎ GivesBack entry
      of_lane_entry o =
          let a = lane_answers says view configs workers spread old new first last commands packets dones r legal_new all history behind goes_on legal before after o.place o.first o.last o.at tells in
          let went = lane_went view says configs old new commands r.crew r.lanes r.ran o.place o.first o.last o.at in
          let given = at_all (λ (lane : Lane P). IsGiven old (shown view lane)) r.ran.begun r.ran.ended o.place o.first o.last r.ran.given o.at in
          let mine : Contains (by (shown view o.first).number (shown view o.last).history) entry =
          own_entry (shown view o.first).number (shown view o.last).history entry
          (subst (λ (es : History). Contains es entry) (sym went.goes_on) (Contains-append_right (shown view o.first).history went.rest entry o.stands)) o.seat in
          ⊎_elim
          (λ was. absurd (Contains-nil entry (subst (λ (es : History). Contains es entry) given.unused was)))
          (λ cov. ⊎_elim (λ b. inr (inr b))
          (λ (x : (n : ℕ) × Contains (numbers_of (jobs_of_lane o.first)) n × Contains (entries_of n history) entry).
          let range = lane_in_phase says view configs workers spread old new first last commands packets dones r o.place o.first o.last o.at x.0 x.1 in
          inl (record { number = x.0; low = range.0; high = range.1; has = x.2 }))
          cov)
          (a.3 entry mine)

  -- an expiry left nothing that was due all the time
  module _ (legal_old : IsPass flow_law old) where
    runs_prefix : (cs : List Command) (p q : Pass FlowEntry) → Runs cs p q → IsPrefix p.history q.history
    runs_prefix [] p q s = subst (λ (x : Pass FlowEntry). IsPrefix p.history x.history) s (IsPrefix-self p.history)
    runs_prefix (Publish place ∷ cs) p q s = runs_prefix cs p q s
    runs_prefix (Expire time ∷ cs) p q s = IsPrefix-trans p.history s.0.history q.history (expiry_prefix time p s.0 s.1) (runs_prefix cs s.0 q s.2)

    wider : (start p q end : History) (id : ConnId) (time : ℕ) → IsPrefix start p → IsPrefix q end → WasNotDue flow_law p q id time → WasNotDue flow_law start end id time
    wider start p q end id time b e w = record {
      point = w.point;
      begins = IsPrefix-trans start p w.point b w.begins;
      goes_on = IsPrefix-trans w.point q end w.goes_on e;
      idle = w.idle;
    }

    -- from a point of the phase to a later one
    module _ (start end : History) (legal_end : Legal flow_law old.slots end) where
      alive_live : (p : History) (id : ConnId) → IsPrefix start p → IsPrefix p end → IsLive (stage_of (state_of flow_law start) id) → IsAlive (stage_of (state_of flow_law end) id) →
          IsLive (stage_of (state_of flow_law p) id)
      alive_live p id b e live alive =
          let whole : end ≡ start ++ (b.rest ++ e.rest) = e.goes_on ∙ (ap (λ (es : History). es ++ e.rest) b.goes_on ∙ append_assoc start b.rest e.rest) in
          let k = state_of flow_law start in
          let from = LegalFrom-rest flow_law old.slots opening start (b.rest ++ e.rest) (subst (λ (es : History). Legal flow_law old.slots es) whole legal_end) in
          let last : IsAlive (stage_of (state_from flow_law k (b.rest ++ e.rest)) id) =
          subst (λ m. IsAlive (stage_of m id)) (ap (state_of flow_law) whole ∙ state_from-append flow_law opening start (b.rest ++ e.rest)) alive in
          subst (λ m. IsLive (stage_of m id)) (sym (ap (state_of flow_law) b.goes_on ∙ state_from-append flow_law opening start b.rest))
          (was_live flow_law old.slots id k b.rest e.rest from live last)

      expired_gone : (p q : Pass FlowEntry) (id : ConnId) (time count : ℕ) (x : Expires flow_law p q.history time count) → IsPrefix start p.history → IsPrefix q.history end →
          IsOneOf x.killed id → IsAlive (stage_of (state_of flow_law end) id) → ⊥
      expired_gone p q id time count x b e one alive =
          let kill = kill_of p time x.killed id one in
          let rest = x.adds.rest ++ e.rest in
          let whole : end ≡ p.history ++ rest = e.goes_on ∙ (ap (λ (es : History). es ++ e.rest) x.adds.goes_on ∙ append_assoc p.history x.adds.rest e.rest) in
          let from = LegalFrom-rest flow_law old.slots opening p.history rest (subst (λ (es : History). Legal flow_law old.slots es) whole legal_end) in
          let has : Contains x.adds.rest kill.0 = in_filter _ x.adds.rest kill.0 (subst (λ (es : History). Contains es kill.0) (sym x.adds.own) kill.1) in
          let last : IsAlive (stage_of (state_from flow_law (state_of flow_law p.history) rest) id) =
          subst (λ m. IsAlive (stage_of m id)) (ap (state_of flow_law) whole ∙ state_from-append flow_law opening p.history rest) alive in
          not_killed flow_law old.slots id (state_of flow_law p.history) rest kill.0 (Expired time) from (Contains-append_left x.adds.rest e.rest kill.0 has) kill.2 last

      leaves_no_due : (cs : List Command) (p q : Pass FlowEntry) → Runs cs p q → IsPrefix start p.history → IsPrefix q.history end → (time : ℕ) → Contains cs (Expire time) →
          LeavesNoDue start end time
      leaves_no_due [] p q s b e time c = absurd (Contains-nil (Expire time) c)
      leaves_no_due (Publish place ∷ cs) p q s b e time c =
          ⊎_elim (λ (same : Publish place ≡ Expire time). absurd cc) (λ d. leaves_no_due cs p q s b e time d) (Contains-cons_cases (Publish place) (Expire time) cs c)
      leaves_no_due (Expire other ∷ cs) p q s b e time c = ⊎_elim
          (λ (same : Expire other ≡ Expire time).
          let times : other ≡ time = cc in
          let due = s.1.due in
          let later = IsPrefix-trans due.history s.0.history end (freed_prefix other p s.0 s.1) (IsPrefix-trans s.0.history q.history end (runs_prefix cs s.0 q s.2) e) in
          λ id live alive. ⊎_elim
          (λ one. absurd (expired_gone p due id other s.1.count s.1.expires b later one alive))
          (λ idle. subst (λ t. WasNotDue flow_law start end id t) times (wider start p.history due.history end id other b later idle))
          (s.1.expires.left id (alive_live p.history id b (IsPrefix-trans p.history due.history end s.1.rested.later.begins later) live alive)))
          (λ d. leaves_no_due cs s.0 q s.2 (IsPrefix-trans start p.history s.0.history b (expiry_prefix other p s.0 s.1)) e time d)
          (Contains-cons_cases (Expire other) (Expire time) cs c)

    control_within : IsPrefix r.ran.controlled.history new.history
    control_within =
        IsPrefix-trans r.ran.controlled.history r.ran.whole.history new.history
        (of_last view (IsTakenIn r.ran.whole.history) r.ran.ended r.ran.controlled r.ran.is_whole.each).begins
        (record { rest = free_entries r.ran.whole r.ran.collects.frees.ids; goes_on = freed_is says view configs workers spread old new first last commands packets dones r legal_new all })

    pub phase_expires : (time : ℕ) → Contains commands (Expire time) → LeavesNoDue old.history new.history time
    phase_expires time c =
        leaves_no_due old.history new.history (Legal-prefix flow_law old.slots new.history history (record { rest = behind; goes_on = goes_on }) legal) commands r.ran.control r.ran.controlled
        r.ran.runs r.ran.control_given.begins control_within time c

    pub phase_made : (phase : Phase) → phase.packets ≡ length packets → phase.commands ≡ commands → IsPhase history old.history new.history first phase
    phase_made phase count same = record {
      added = r.ran.is_whole.added ++ free_entries r.ran.whole r.ran.collects.frees.ids;
      goes_on = phase_adds says view configs workers spread old new first last commands packets dones r legal_new all;
      only = λ entry c. subst (λ n. IsOfPacket history first n entry ⊎ (IsExpiry phase.commands entry ⊎ GivesBack entry)) (sym count)
          (subst (λ cs. IsOfPacket history first (length packets) entry ⊎ (IsExpiry cs entry ⊎ GivesBack entry)) (sym same) (phase_only entry c));
      expires = λ time c. phase_expires time (subst (λ cs. Contains cs (Expire time)) same c);
    }

    -- the phase plays, and so it does at the end of the run
    pub phase_plays : (start final : Pass FlowEntry) (phase : Phase) → phase.packets ≡ length packets → phase.commands ≡ commands → start.slots ≡ old.slots → final.history ≡ history →
        new.epoch ≤ final.epoch → PlaysPhase configs workers spread start final old.history new.history first last phase packets (outputs_of dones) (outcomes_of dones)
    phase_plays start final phase count same sized whole epoch = record {
      dealt = r.order;
      asked = phase_asked;
      answered = subst (λ n. AreAnswered configs workers spread n final.history new.history first packets r.order phase_asked (outcomes_of dones) (outputs_of dones)) (sym sized)
          (subst (λ (es : History). AreAnswered configs workers spread old.slots es new.history first packets r.order phase_asked (outcomes_of dones) (outputs_of dones)) (sym whole) phase_answered);
      fresh = subst (λ cs. AreFresh last (last + published_by cs) r.order phase_asked) (sym same) phase_fresh;
      in_turn = subst (λ (es : History). AreInTurn es first r.order) (sym whole) phase_in_turn;
      made = subst (λ (es : History). IsPhase es old.history new.history first phase) (sym whole) (phase_made phase count same);
      clean = phase_clean final epoch;
    }
