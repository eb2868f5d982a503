-- How a turn ends in which connections were killed as due.
use Rattle.std.proofs.Common.{◌≡◌, ◌⊎◌, ℕ, ◌<◌, ◌≤◌, Bool, true, false, List, [], ◌∷◌, ◌++◌, IsTrue, refl, sym, ap, ◌∙◌, subst, ⊎_elim, inl, inr, arith, length}
use Rattle.atomic_table.specs.Table.{Me, rest}
use Rattle.npf_core.specs.declared.{act.{Act.Act, Why.TheVariants.Expired}, conn_id.ConnId.ConnId, entry.Entry.Entry, stage.Stage.Stage}
use Rattle.npf_core.specs.{declared.stage.Stage.TheVariants.{Vacant, Building, Live, Dead}, Allowed.IsDue, History.{IsPrefix, state_of, state_from}}
use Rattle.npf_core.{specs.{Machine.{Machine, opening, stage_of, HoldsNone}, Meaning.Meaning}, proofs.HistoryLemmas.{state_from-append, IsPrefix-append}}
use Rattle.npf_connections.specs.{Adding.Adds, Expiring.{Killed, Expires, expiry_entries}, Pass.{Pass, IsPass}}
use Rattle.npf_oneturn_store.specs.declared.phase.SlotPhase.TheVariants as phase
use Rattle.npf_oneturn_store.specs.{declared.{phase.SlotPhase.SlotPhase, store.Store.Store}, Represents.Represents, Store.{phase_of, IsDuePhase}}
use Rattle.npf_oneturn_store.proofs.{ConnectionLemmas.claimed_within, RepresentLemmas.shows_due}
use Rattle.npf_oneturn.specs.declared.{contents.Contents.Contents, view.View.View}
use Rattle.npf_oneturn.specs.declared.rule.CallEnding.TheVariants as ending
use Rattle.npf_oneturn.specs.{Endings.{entries_from, end_acts, expiry_acts, Plan, planned_entries, ExpiresBy, MayEndTurn, HasEnded}, Taking.Taken, Views.show}
use Rattle.npf_oneturn.{specs.Work.{worked, ExpiresBelow}, proofs.{AbandonLemmas.ending_entries, CallLemmas.{k, taker, may_end, finished}}}
use Rattle.npf_seats.proofs.PrefixLemmas.{none_listed}
use Rattle.npf_oneturn.proofs.WorkLemmas.{entries-append}

-- what is due is in a slot
due_within : {S A R : Type 0} (m : Meaning S A R) (slots : ℕ) (store : Store S) (k0 : Machine S) → Represents slots store k0 → (id : ConnId) (now : ℕ) → IsDue m now (stage_of k0 id) → id.slot < slots
due_within {S} m slots store k0 r id now due =
    let there = (shows_due m slots store k0 id now r).0 due in
    let within = claimed_within store.connections.items id (λ vacant. not_vacant (phase_of store id) vacant there) in
    omega (arith, within, r.sized)
  where
    not_vacant : (p : SlotPhase S) → p ≡ phase.Vacant → IsDuePhase m now p → ⊥
    not_vacant phase.Vacant e h = h
    not_vacant phase.Building e h = h
    not_vacant (phase.Live flow n) e h = cc
    not_vacant phase.Dead e h = h

module _ {S A R : Type 0} (m : Meaning S A R) (v : View S A R) (me : Me (Contents S) (View S A R)) (t : Taken m v me) (out : v.entered ≡ false) where
  pub may_expire : (now count : ℕ) (old new : Contents S) → Represents v.seats.about old.store (k m v me t) → new.entered ≡ t.contents.entered →
      ExpiresBelow m v.seats.about (k m v me t) v.seats.number now v.seats.about count new.store → MayEndTurn m (ending.Expires now count) (me.0, (0, new) ∷ rest me.1)
  may_expire now count old new r same e =
      let k0 = k m v me t in
      let acts : List (Act S A) = expiry_acts now e.killed in
      let on : state_of m (t.log ++ entries_from m k0 v.seats.number acts) ≡ worked m k0 v.seats.number acts = state_from-append m opening t.log (entries_from m k0 v.seats.number acts) in
      may_end m v me t (ending.Expires now count) (record { acts = acts; entered = v.entered; answered = v.answered; builds = v.builds }) new
      (record { killed = e.killed; is = refl; counted = e.counted; gave_up = e.gave_up; due = λ id due. e.due id (due_within m v.seats.about old.store k0 r id now due) due }) (record {
        legal = e.works.legal;
        represents = rw on e.works.represents;
        bare = rw on (e.bare t.bare);
        counted = omega (arith, same, t.counted);
        tidy = record { unanswered = t.tidy.unanswered; idle = t.tidy.idle; place = t.tidy.place };
        stays = record {
          claimed = λ id c. absurd (none_listed id (rw (t.tidy.unanswered out) at c));
          built = λ id c. absurd (none_listed id (rw (t.tidy.idle out) at c));
        };
        frees = inl e.unfreed;
      })

expiry_entries_are : {S A R : Type 0} (m : Meaning S A R) (pass : Pass (Entry S A R)) (now : ℕ) (killed : List Killed) (k1 : Machine S) →
    entries_from m k1 pass.number (expiry_acts now killed) ≡ expiry_entries pass now killed
expiry_entries_are m pass now [] k1 = refl
expiry_entries_are {S} {A} {R} m pass now (x ∷ xs) k1 =
    let acts : List (Act S A) = end_acts x.id (Expired now) x.held in
    entries-append m pass.number k1 acts (expiry_acts now xs)
    ∙ (λ i. ending_entries m pass x.id (Expired now) x.held k1 i ++ expiry_entries_are m pass now xs (worked m k1 pass.number acts) i)

-- a connection is due or isn't
is_due_or : {S A R : Type 0} (m : Meaning S A R) (now : ℕ) (stage : Stage S) → IsDue m now stage ⊎ ¬ IsDue m now stage
is_due_or m now Vacant = inr (λ h. h)
is_due_or m now (Building seat) = inr (λ h. h)
is_due_or m now (Live flow n) = by_test (m.is_due flow now) refl
  where
    by_test : (test : Bool) → m.is_due flow now ≡ test → IsTrue (m.is_due flow now) ⊎ ¬ IsTrue (m.is_due flow now)
    by_test true e = inl e
    by_test false e = inr (λ h. cc)
is_due_or m now Dead = inr (λ h. h)

pub expired : {S A R : Type 0} (m : Meaning S A R) (v : View S A R) (me : Me (Contents S) (View S A R)) (t : Taken m v me)
    (lives : v.seats.lives ≡ true) (theirs : v.seats.theirs ≡ []) (place : 1 ≤ length v.seats.readers)
    (now count : ℕ) (contents : Contents S) (next : Me (Contents S) (View S A R)) (h : HasEnded m (ending.Expires now count) (me.0, (0, contents) ∷ rest me.1) next) →
    Expires m (show v) next.0.seats.history now count × IsPass m (show next.0)
expired {S} {A} {R} m v me t lives theirs place now count contents next h =
    let f = finished m v me t lives theirs place (ending.Expires now count) contents next h in
    let u = taker m v me t in
    let k0 = k m v me t in
    let seat : me.0 ≡ u = ap (λ (y : Me (Contents S) (View S A R)). y.0) t.is in
    let b : ExpiresBy m now count u h.plan = subst (λ (w : View S A R). ExpiresBy m now count w h.plan) seat h.by_plan in
    let history : next.0.seats.history ≡ t.log ++ planned_entries m h.plan u = ap (λ (w : View S A R). w.seats.history) f.view in
    let state : state_of m next.0.seats.history ≡ state_from m k0 (planned_entries m h.plan u) = ap (state_of m) history ∙ state_from-append m opening t.log (planned_entries m h.plan u) in (
      record {
        killed = b.killed;
        adds = subst (λ (es : List (Entry S A R)). Adds (show v) next.0.seats.history es)
            (ap (λ (p : Plan S A). planned_entries m p u) b.is ∙ expiry_entries_are m (show v) now b.killed k0) f.adds.adds;
        counted = b.counted;
        gave_up = λ id way c. subst (λ l. HoldsNone l id way) (sym state) (b.gave_up id way c);
        left = λ id live. ⊎_elim
            (λ due. inl (b.due id due))
            (λ idle. inr (record {
              point = t.log;
              begins = t.goes_on;
              goes_on = subst (λ (hs : List (Entry S A R)). IsPrefix t.log hs) (sym history) (IsPrefix-append t.log (planned_entries m h.plan u));
              idle = idle;
            }))
            (is_due_or m now (stage_of k0 id));
      },
      f.legal,
    )
