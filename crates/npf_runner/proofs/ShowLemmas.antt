-- What the history in which a phase stands shows of its packets.
use Rattle.std.proofs.Common.{◌≡◌, ◌≢◌, ◌⊎◌, ℕ, ◌≤◌, ◌<◌, ◌+◌, true, false, List, [], ◌++◌, Option, get_or, length, refl, sym, ap, subst, ◌∙◌, ⊎_elim, inl, inr}
use Rattle.std.{specs.List.Contains, proofs.lemmas.List.{append_assoc, length-map}}
use Rattle.std.proofs.lemmas.{List.Elements.{Contains-append_cases, Contains-append_left, Contains-append_right}, Bool.false_from_ne_true}
use Rattle.npf_shelf.proofs.ListLemmas.{Contains-nil}
use Rattle.npf_core.{specs.History.{Legal, by}, proofs.HistoryLemmas.IsPrefix-trans}
use Rattle.npf_connections.{specs.{Entries.free_entries, Pass.{Pass, IsPass, all_places}}, proofs.AddLemmas.adds_alone}
use Rattle.npf_flow.specs.Flows.{flow_law}
use Rattle.npf_model.specs.Configuration.{Configuration}
use Rattle.npf_runner_dealing.{specs.Lanes.of_lane, proofs.LaneLemmas.get_or-map}
use Rattle.npf_publish.specs.ConfReader.{reader_range, least_number}
use Rattle.npf_runner_passes.{specs.{Whole.IsTakenIn, Parts.IsGiven}, proofs.NumberLemmas.none_added}
use Rattle.npf_engine.specs.Histories.{FlowEntry, History, carries}
use Rattle.npf_traffic.specs.declared.{packet.Packet.Packet, phase.{Command.Command, Spread.Spread}}
use Rattle.npf_runner.specs.{declared.worker.Lane.Lane, Crew.{jobs_of, jobs_of_lane, done_of_lane, worker_of_lane}, Job.{Handled, numbered_from}}
use Rattle.npf_runner.{specs.{Lanes.HasWorked, Phase.RunsPhase}, proofs.CarryLemmas.{CarryNone, none_in_both, not_both}}
use Rattle.npf_runner.proofs.{CommandLemmas.{commands_carry_none, frees_say}, NumberingLemmas.{in_phase, apart_in_lane, in_one_lane}}
use Rattle.npf_runner.proofs.{PairLemmas.{At, at_zip, at_all, at_left, at_right, at_same}, SourceLemmas.{shown, of_lane_at, lane_went, source, OfLane}}
use Rattle.npf_runner.proofs.WorksLemmas.{SaysOwn, TellsInLonger, WentOn, Shows, Answers, Covers, numbers_of, ReadsOn, own_entry, answers, Apart, InTurn, takes_in_turn}

-- the phase's numbers
abbrev pub InPhase : ℕ → List Packet → ℕ → Type 0
InPhase first packets n = (first ≤ n) × (n < first + length packets)

module _ (says : SaysOwn) {P : Type 0} (view : P → Pass FlowEntry) (configs : List Configuration) (workers : ℕ) (spread : Spread) (old new : Pass FlowEntry)
    (first last : ℕ) (commands : List Command) (packets : List Packet) (dones : List Handled)
    (r : RunsPhase view configs workers spread old new last commands (numbered_from first packets) dones) where
  abbrev At_place : ℕ → Lane P → Lane P → Type 0
  At_place i b e = At r.ran.begun r.ran.ended i b e

  -- a lane's packets, and what became of them
  pub lane_jobs : (i : ℕ) (b e : Lane P) → At_place i b e → jobs_of_lane b ≡ of_lane i r.order (numbered_from first packets)
  lane_jobs i b e at =
      let l = at_left worker_of_lane r.ran.begun r.ran.ended i b e b.worker at in
      let here : get_or r.crew i b.worker ≡ b.worker = subst (λ ws. get_or ws i b.worker ≡ b.worker) r.ran.workers l.0 in
      let low : i < length r.crew = subst (λ ws. i < length ws) r.ran.workers l.1 in
      ap jobs_of (sym here) ∙ (sym (get_or-map jobs_of r.crew i b.worker [] low) ∙ r.dealt.each i [] (rw (length-map r.crew jobs_of) low))

  pub lane_done : (i : ℕ) (b e : Lane P) → At_place i b e → done_of_lane e ≡ of_lane i r.order dones
  lane_done i b e at =
      let l = at_right done_of_lane r.ran.begun r.ran.ended i b e [] at in
      sym (subst (λ ds. get_or ds i [] ≡ done_of_lane e) r.ran.done l.0) ∙ r.gathered.each i [] (subst (λ ds. i < length ds) r.ran.done l.1)

  pub lane_in_phase : (i : ℕ) (b e : Lane P) → At_place i b e → (n : ℕ) → Contains (numbers_of (jobs_of_lane b)) n → InPhase first packets n
  lane_in_phase i b e at n c = in_phase r.order first packets i n (subst (λ js. Contains (numbers_of js) n) (lane_jobs i b e at) c)

  module _ (legal_new : IsPass flow_law new) (all : old.places ≡ all_places) where
    pub freed_is : new.history ≡ r.ran.whole.history ++ free_entries r.ran.whole r.ran.collects.frees.ids
    freed_is = adds_alone flow_law r.ran.whole new (free_entries r.ran.whole r.ran.collects.frees.ids) legal_new
        (ap (λ (p : Pass FlowEntry). p.places) r.ran.collects.view.view ∙ (ap (λ (p : Pass FlowEntry). p.places) r.ran.is_whole.left ∙ all))
        (ap (λ (p : Pass FlowEntry). p.number) r.ran.collects.view.view) (ap (λ (p : Pass FlowEntry). p.joined) r.ran.collects.view.view) r.ran.collects.frees.adds.adds

    -- what the phase adds to the history
    pub phase_adds : new.history ≡ old.history ++ (r.ran.is_whole.added ++ free_entries r.ran.whole r.ran.collects.frees.ids)
    phase_adds =
        freed_is
        ∙ (ap (λ (es : History). es ++ free_entries r.ran.whole r.ran.collects.frees.ids) r.ran.is_whole.goes_on
        ∙ append_assoc old.history r.ran.is_whole.added (free_entries r.ran.whole r.ran.collects.frees.ids))

    -- an entry of the phase carries none but its lane's numbers
    pub added_carries : (entry : FlowEntry) (n : ℕ) → Contains r.ran.is_whole.added entry → carries n entry.act ≡ true →
        (o : OfLane view says configs old new commands r.crew r.lanes r.ran entry) × Contains (numbers_of (jobs_of_lane o.first)) n
    added_carries entry n c carry = ⊎_elim
        (λ (o : OfLane view says configs old new commands r.crew r.lanes r.ran entry).
        (o, (lane_went view says configs old new commands r.crew r.lanes r.ran o.place o.first o.last o.at).own entry n o.stands o.seat carry))
        (λ said. absurd (not_both (carries n entry.act) carry (commands_carry_none commands entry n said)))
        (source view says configs old new commands r.crew r.lanes r.ran entry c)

    module _ (history behind : History) (goes_on : history ≡ new.history ++ behind) (legal : Legal flow_law old.slots history)
        (before : CarryNone (InPhase first packets) old.history) (after : CarryNone (InPhase first packets) behind) where
      -- where an entry of the whole history stands
      parts : (entry : FlowEntry) → Contains history entry → Contains old.history entry ⊎
          (Contains r.ran.is_whole.added entry ⊎ (Contains (free_entries r.ran.whole r.ran.collects.frees.ids) entry ⊎ Contains behind entry))
      parts entry c = ⊎_elim
          (λ d. ⊎_elim
          (λ w. ⊎_elim (λ x. inl x) (λ x. inr (inl x)) (Contains-append_cases old.history r.ran.is_whole.added entry (subst (λ (es : History). Contains es entry) r.ran.is_whole.goes_on w)))
          (λ f. inr (inr (inl f)))
          (Contains-append_cases r.ran.whole.history (free_entries r.ran.whole r.ran.collects.frees.ids) entry (subst (λ (es : History). Contains es entry) freed_is d)))
          (λ b. inr (inr (inr b)))
          (Contains-append_cases new.history behind entry (subst (λ (es : History). Contains es entry) goes_on c))

      freed_none : (entry : FlowEntry) (n : ℕ) → Contains (free_entries r.ran.whole r.ran.collects.frees.ids) entry → carries n entry.act ≡ false
      freed_none entry n c = let f = frees_say r.ran.whole r.ran.collects.frees.ids entry c in rw f.1 refl

      module _ (i : ℕ) (b e : Lane P) (at : At_place i b e) where
        others : (entry : FlowEntry) (n : ℕ) → Contains history entry → entry.seat ≢ (shown view b).number → Contains (numbers_of (jobs_of_lane b)) n → carries n entry.act ≡ false
        others entry n c apart mine = ⊎_elim
            (λ x. before entry n x (lane_in_phase i b e at n mine))
            (λ y. ⊎_elim
            (λ x. false_from_ne_true (carries n entry.act) (λ carry. by_source x (added_carries entry n x carry)))
            (λ z. ⊎_elim (λ x. freed_none entry n x) (λ x. after entry n x (lane_in_phase i b e at n mine)) z) y)
            (parts entry c)
          where
            by_source : Contains r.ran.is_whole.added entry → (o : OfLane view says configs old new commands r.crew r.lanes r.ran entry) × Contains (numbers_of (jobs_of_lane o.first)) n → ⊥
            by_source x s =
                let o = s.0 in
                let theirs = subst (λ js. Contains (numbers_of js) n) (lane_jobs o.place o.first o.last o.at) s.1 in
                let own = subst (λ js. Contains (numbers_of js) n) (lane_jobs i b e at) mine in
                let same : o.place ≡ i = in_one_lane r.order first packets o.place i n theirs own in
                let one : o.first ≡ b = at_same r.ran.begun r.ran.ended o.place i o.first o.last b e same o.at at in
                apart (o.seat ∙ ap (λ (lane : Lane P). (shown view lane).number) one)

        taken : IsTakenIn r.ran.whole.history (shown view e)
        taken = of_lane_at view (IsTakenIn r.ran.whole.history) r.ran.begun r.ran.ended r.ran.controlled i b e r.ran.is_whole.each at

        went : WentOn (shown view b) (shown view e) (numbers_of (jobs_of_lane b))
        went = lane_went view says configs old new commands r.crew r.lanes r.ran i b e at

        between : History
        between = taken.begins.rest

        behind_lane : history ≡ (shown view e).history ++ (taken.begins.rest ++ (free_entries r.ran.whole r.ran.collects.frees.ids ++ behind))
        behind_lane = goes_on ∙ (ap (λ (es : History). es ++ behind) (freed_is ∙ ap (λ (es : History). es ++ free_entries r.ran.whole r.ran.collects.frees.ids) taken.begins.goes_on)
            ∙ (append_assoc ((shown view e).history ++ taken.begins.rest) (free_entries r.ran.whole r.ran.collects.frees.ids) behind
            ∙ append_assoc (shown view e).history taken.begins.rest (free_entries r.ran.whole r.ran.collects.frees.ids ++ behind)))

        none_own : by (shown view e).number taken.begins.rest ≡ []
        none_own = none_added (shown view e).number (shown view e).history taken.begins.rest r.ran.whole.history taken.begins.goes_on taken.own

        between_none : CarryNone (Contains (numbers_of (jobs_of_lane b))) taken.begins.rest
        between_none entry n c mine = others entry n
            (rw behind_lane (Contains-append_right (shown view e).history (taken.begins.rest ++ (free_entries r.ran.whole r.ran.collects.frees.ids ++ behind)) entry
            (Contains-append_left taken.begins.rest (free_entries r.ran.whole r.ran.collects.frees.ids ++ behind) entry c)))
            (λ seat. Contains-nil entry (subst (λ (es : History). Contains es entry) none_own (own_entry (shown view e).number taken.begins.rest entry c (seat ∙ sym went.number))))
            mine

        pub shows : Shows says configs old.slots history new.history (shown view b).number (numbers_of (jobs_of_lane b)) (shown view e)
        shows = record {
          legal = legal;
          ends = record { rest = behind; goes_on = goes_on };
          within = IsPrefix-trans (shown view e).history r.ran.whole.history new.history taken.begins (record { rest = free_entries r.ran.whole r.ran.collects.frees.ids; goes_on = freed_is });
          behind = taken.begins.rest ++ (free_entries r.ran.whole r.ran.collects.frees.ids ++ behind);
          goes_on = behind_lane;
          quiet = none_in_both (Contains (numbers_of (jobs_of_lane b))) taken.begins.rest (free_entries r.ran.whole r.ran.collects.frees.ids ++ behind) between_none
              (λ entry n c mine. ⊎_elim (λ x. freed_none entry n x) (λ x. after entry n x (lane_in_phase i b e at n mine))
              (Contains-append_cases (free_entries r.ran.whole r.ran.collects.frees.ids) behind entry c));
          others = others;
        }

        -- before the lane's first packet none of them has an entry
        none_before : CarryNone (Contains (numbers_of (jobs_of_lane b))) (shown view b).history
        none_before entry n c mine = false_from_ne_true (carries n entry.act) (λ carry. not_both (carries n entry.act) carry (by_seat_of carry))
          where
            in_history : Contains history entry
            in_history = rw behind_lane (Contains-append_left (shown view e).history (taken.begins.rest ++ (free_entries r.ran.whole r.ran.collects.frees.ids ++ behind)) entry
                (subst (λ (es : History). Contains es entry) (sym went.goes_on) (Contains-append_left (shown view b).history went.rest entry c)))

            by_seat_of : carries n entry.act ≡ true → carries n entry.act ≡ false
            by_seat_of carry = others entry n in_history
                (λ seat. let given = at_all (λ (lane : Lane P). IsGiven old (shown view lane)) r.ran.begun r.ran.ended i b e r.ran.given at in
                Contains-nil entry (subst (λ (es : History). Contains es entry) given.unused (own_entry (shown view b).number (shown view b).history entry c seat))) mine

        -- each of its packets is explained
        pub lane_answers : TellsInLonger → (asked : List (Option ℕ)) × Answers says configs old.slots history new.history (shown view b).number (jobs_of_lane b) asked (done_of_lane e)
            × ReadsOn (reader_range b.worker.reader) (least_number b.worker.reader) asked
            × Covers says configs history (shown view b).number (numbers_of (jobs_of_lane b)) (shown view b) (shown view e)
        lane_answers tells =
            let h = at_zip (HasWorked view configs) r.ran.begun r.ran.ended i b e r.ran.worked at in
            let given = at_all (λ (lane : Lane P). IsGiven old (shown view lane)) r.ran.begun r.ran.ended i b e r.ran.given at in
            let pass = at_all (λ (lane : Lane P). IsPass flow_law (shown view lane)) r.ran.begun r.ran.ended i b e r.ran.legal at in
            answers says configs tells old.slots history new.history (shown view b).number (shown view b) (shown view e) b.worker.reader e.worker.reader (jobs_of_lane b) (done_of_lane e) h.works
            pass (ap (λ (p : Pass FlowEntry). p.slots) given.rests) refl
            (subst (λ js. Apart (numbers_of js)) (sym (lane_jobs i b e at)) (apart_in_lane r.order first packets i)) shows none_before

        -- they are taken in turn
        pub lane_in_turn : TellsInLonger → InTurn history (numbers_of (jobs_of_lane b))
        lane_in_turn tells =
            let h = at_zip (HasWorked view configs) r.ran.begun r.ran.ended i b e r.ran.worked at in
            let given = at_all (λ (lane : Lane P). IsGiven old (shown view lane)) r.ran.begun r.ran.ended i b e r.ran.given at in
            let pass = at_all (λ (lane : Lane P). IsPass flow_law (shown view lane)) r.ran.begun r.ran.ended i b e r.ran.legal at in
            takes_in_turn says configs tells old.slots history new.history (shown view b).number (shown view b) (shown view e) b.worker.reader e.worker.reader (jobs_of_lane b) (done_of_lane e) h.works
            pass (ap (λ (p : Pass FlowEntry). p.slots) given.rests) refl
            (subst (λ js. Apart (numbers_of js)) (sym (lane_jobs i b e at)) (apart_in_lane r.order first packets i)) shows none_before
