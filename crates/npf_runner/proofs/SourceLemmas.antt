-- Where the entries of a phase come from.
use Rattle.std.{proofs.Common.{◌≡◌, ◌⊎◌, ℕ, List, [], ◌∷◌, ◌++◌, All, map, sym, subst, ◌∙◌, ⊎_elim, inl, inr, zero, suc}, specs.List.Contains}
use Rattle.std.proofs.lemmas.List.Elements.{All-head, All-tail, Contains-append_cases, Contains-append_right}
use Rattle.npf_shelf.proofs.ListLemmas.{Contains-first, Contains-later, Contains-nil, Contains-cons_cases}
use Rattle.npf_connections.specs.Pass.{Pass}
use Rattle.npf_model.specs.Configuration.{Configuration}
use Rattle.npf_runner_passes.specs.{Whole.{numbers, IsTakenIn}, Parts.IsGiven}
use Rattle.npf_engine.specs.Histories.{FlowEntry, History}
use Rattle.npf_traffic.specs.declared.phase.Command.{Command}
use Rattle.npf_runner.specs.{declared.worker.{Lane.Lane, Worker.Worker}, Crew.{done_of_lane, jobs_of_lane}, Job.Handled, Lanes.HasWorked, Phase.RunsCrew}
use Rattle.npf_runner.proofs.{CarryLemmas.in_filter, CommandLemmas.{Grew, OfCommands, commands_grew}, PairLemmas.{At, at_zip, at_all, finds}}
use Rattle.npf_runner.proofs.WorksLemmas.{SaysOwn, WentOn, numbers_of, own_entry, went_on}

-- an entry of a pass that was new stands in what its history went on by
pub behind_given : (old given end : Pass FlowEntry) (rest : History) → IsGiven old given → end.history ≡ given.history ++ rest →
    (entry : FlowEntry) → Contains end.history entry → entry.seat ≡ given.number → Contains rest entry
behind_given old given end rest g is entry c seat = ⊎_elim
    (λ d. absurd (Contains-nil entry (subst (λ (es : History). Contains es entry) g.unused (own_entry given.number given.history entry d seat))))
    (λ d. d)
    (Contains-append_cases given.history rest entry (subst (λ (es : History). Contains es entry) is c))

-- an entry of a pass that was taken in stands in its own history
pub in_own : (whole : History) (pass : Pass FlowEntry) → IsTakenIn whole pass → (entry : FlowEntry) → Contains whole entry → entry.seat ≡ pass.number → Contains pass.history entry
in_own whole pass t entry c seat =
    in_filter _ pass.history entry (subst (λ (es : History). Contains es entry) t.own (own_entry pass.number whole entry c seat))

module _ {P : Type 0} (view : P → Pass FlowEntry) where
  abbrev pub shown : Lane P → Pass FlowEntry
  shown lane = view lane.pass

  -- the number is that of a worker's pass, or of the control task's
  pub whose_number : (ended : List (Lane P)) (last : Pass FlowEntry) (n : ℕ) → Contains (numbers (map shown ended ++ last ∷ [])) n →
      Contains (map (λ lane. (shown lane).number) ended) n ⊎ (last.number ≡ n)
  whose_number [] last n c = ⊎_elim (λ (e : last.number ≡ n). inr e) (λ d. absurd (Contains-nil n d)) (Contains-cons_cases last.number n [] c)
  whose_number (lane ∷ ended) last n c = ⊎_elim
      (λ (e : (shown lane).number ≡ n). inl (subst (λ m. Contains ((shown lane).number ∷ map (λ l. (shown l).number) ended) m) e
      (Contains-first (shown lane).number (map (λ l. (shown l).number) ended))))
      (λ d. ⊎_elim (λ l. inl (Contains-later (shown lane).number n (map (λ l. (shown l).number) ended) l)) (λ e. inr e) (whose_number ended last n d))
      (Contains-cons_cases (shown lane).number n (numbers (map shown ended ++ last ∷ [])) c)

  pub of_last : (Q : Pass FlowEntry → Type 0) (ended : List (Lane P)) (last : Pass FlowEntry) → All Q (map shown ended ++ last ∷ []) → Q last
  of_last Q [] last all = All-head Q last [] all
  of_last Q (lane ∷ ended) last all = of_last Q ended last (All-tail Q (shown lane) (map shown ended ++ last ∷ []) all)

  pub of_lane_at : (Q : Pass FlowEntry → Type 0) (begun ended : List (Lane P)) (last : Pass FlowEntry) (i : ℕ) (b e : Lane P) → All Q (map shown ended ++ last ∷ []) →
      At begun ended i b e → Q (shown e)
  of_lane_at Q [] ended last i b e all at = absurd at
  of_lane_at Q (x ∷ begun) [] last i b e all at = absurd at
  of_lane_at Q (x ∷ begun) (y ∷ ended) last zero b e all at = subst (λ (lane : Lane P). Q (shown lane)) at.1 (All-head Q (shown y) (map shown ended ++ last ∷ []) all)
  of_lane_at Q (x ∷ begun) (y ∷ ended) last (suc i) b e all at = of_lane_at Q begun ended last i b e (All-tail Q (shown y) (map shown ended ++ last ∷ []) all) at

  module _ (says : SaysOwn) (configs : List Configuration) (old new : Pass FlowEntry) (commands : List Command) (crew : List Worker) (dones : List (List Handled))
      (r : RunsCrew view configs old new commands crew dones) where
    -- what a worker's pass went on by
    pub lane_went : (i : ℕ) (b e : Lane P) → At r.begun r.ended i b e → WentOn (shown b) (shown e) (numbers_of (jobs_of_lane b))
    lane_went i b e at =
        let h = at_zip (HasWorked view configs) r.begun r.ended i b e r.worked at in
        went_on says configs (shown b) b.worker.reader (jobs_of_lane b) (shown e) e.worker.reader (done_of_lane e) h.works

    pub control_grew : Grew r.control r.controlled (OfCommands commands)
    control_grew = commands_grew commands r.control r.controlled r.runs

    -- an entry that was added is a worker's, or the control task's
    pub record OfLane (entry : FlowEntry) : Type 0 where
      pub place : ℕ
      pub first : Lane P
      pub last : Lane P
      pub at : At r.begun r.ended place first last
      pub seat : entry.seat ≡ (shown first).number
      pub stands : Contains (lane_went place first last at).rest entry

    pub source : (entry : FlowEntry) → Contains r.is_whole.added entry → OfLane entry ⊎ OfCommands commands entry
    source entry c = ⊎_elim by_lane by_control (whose_number r.ended r.controlled entry.seat (r.is_whole.seats entry c))
      where
        in_whole : Contains r.whole.history entry
        in_whole = subst (λ (es : History). Contains es entry) (sym r.is_whole.goes_on) (Contains-append_right old.history r.is_whole.added entry c)

        by_lane : Contains (map (λ lane. (shown lane).number) r.ended) entry.seat → OfLane entry ⊎ OfCommands commands entry
        by_lane d =
            let f = finds (HasWorked view configs) (λ (lane : Lane P). (shown lane).number) r.begun r.ended entry.seat r.worked d in
            let went = lane_went f.place f.left f.right f.at in
            let taken = of_lane_at (IsTakenIn r.whole.history) r.begun r.ended r.controlled f.place f.left f.right r.is_whole.each f.at in
            let given = at_all (λ (lane : Lane P). IsGiven old (shown lane)) r.begun r.ended f.place f.left f.right r.given f.at in
            let mine : entry.seat ≡ (shown f.left).number = sym f.is ∙ went.number in
            inl (record {
              place = f.place;
              first = f.left;
              last = f.right;
              at = f.at;
              seat = mine;
              stands = behind_given old (shown f.left) (shown f.right) went.rest given went.goes_on entry (in_own r.whole.history (shown f.right) taken entry in_whole (sym f.is)) mine;
            })

        by_control : r.controlled.number ≡ entry.seat → OfLane entry ⊎ OfCommands commands entry
        by_control e =
            let taken = of_last (IsTakenIn r.whole.history) r.ended r.controlled r.is_whole.each in
            let mine : entry.seat ≡ r.control.number = sym e ∙ control_grew.number in
            inr (control_grew.own entry (behind_given old r.control r.controlled control_grew.rest r.control_given control_grew.goes_on entry
            (in_own r.whole.history r.controlled taken entry in_whole (sym e)) mine) mine)
