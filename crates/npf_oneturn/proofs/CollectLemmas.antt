-- How what is Dead is freed in a turn.
use Rattle.std.proofs.Common.{◌≡◌, ◌≢◌, ℕ, ◌<◌, ◌≤◌, true, false, List, [], ◌∷◌, ◌++◌, map, refl, sym, ap, ◌∙◌, subst, ⊎_elim, inl, inr, arith, append-nil, length}
use Rattle.std.{specs.List.Contains, proofs.lemmas.Bool.cases_eq}
use Rattle.atomic_table.specs.Table.{Me, rest}
use Rattle.npf_types.specs.declared.key.Way.{Way}
use Rattle.npf_core.specs.declared.{act.Act.{Act, TheVariants.Free}, conn_id.ConnId.ConnId, entry.Entry.Entry, reply.Reply.TheVariants.Nothing}
use Rattle.npf_core.specs.{declared.stage.Stage.TheVariants.Dead, History.{LegalFrom, state_of, state_from}}
use Rattle.npf_core.{specs.{Machine.{Machine, opening, stage_of, IsClaimed, HoldsNone}, Meaning.Meaning, NextState.after_act}, proofs.ClaimedLemmas.was_claimed}
use Rattle.npf_core.proofs.{HistoryLemmas.state_from-append, IdentityLemmas.counts_incarnations, LifeLemmas.IsClaimed-last}
use Rattle.npf_connections.specs.{Adding.AddsOwn, Collecting.{FreesAlone, IsClean}, Entries.{free_entries, entry_of}, Pass.{Pass, IsPass}}
use Rattle.npf_oneturn_store.specs.{declared.{phase.SlotPhase.SlotPhase, store.Store.Store}, Represents.Represents, Store.phase_of}
use Rattle.npf_oneturn_store.proofs.{ConnectionLemmas.claimed_within, RepresentLemmas.shows_dead}
use Rattle.npf_oneturn.specs.declared.{contents.Contents.Contents, view.View.View}
use Rattle.npf_oneturn.specs.declared.rule.CallEnding.TheVariants as ending
use Rattle.npf_oneturn.specs.{Endings.{entries_from, Plan, planned_entries, CollectsBy, MayEndTurn, HasEnded}, Taking.Taken, Views.{one_if, show}}
use Rattle.npf_oneturn.{specs.Work.{worked, FreesBelow}, proofs.{CallLemmas.{k, taker, may_end, finished}, StayLemmas.none_next}}
use Rattle.npf_seats.proofs.PrefixLemmas.{none_listed}

module _ {S A R : Type 0} (m : Meaning S A R) (slots : ℕ) (seat : ℕ) (id : ConnId) (way : Way) where
  none_freed : (ids : List ConnId) (k0 : Machine S) → LegalFrom m slots k0 (entries_from m k0 seat (map (λ i. Free i) ids)) →
      HoldsNone k0 id way → HoldsNone (worked m k0 seat (map (λ i. Free i) ids)) id way
  none_freed [] k0 legal h = h
  none_freed (i ∷ ids) k0 legal h = none_freed ids (after_act m k0 seat (Free i)) legal.1 (none_next m slots k0 seat (Free i) legal.0.allowed id way (λ found key e. absurd cc) h)

module _ {S A R : Type 0} (m : Meaning S A R) (slots : ℕ) (store : Store S) (k0 : Machine S) (r : Represents slots store k0) where
  dead_within : (id : ConnId) → stage_of k0 id ≡ Dead → id.slot < slots
  dead_within id dead =
      let phase : phase_of store id ≡ SlotPhase.Dead = (shows_dead S slots store k0 id r).0 dead in
      let within = claimed_within store.connections.items id (λ vacant. absurd (let e = sym phase ∙ vacant in cc)) in
      omega (arith, within, r.sized)

module _ {S A R : Type 0} (m : Meaning S A R) (v : View S A R) (me : Me (Contents S) (View S A R)) (t : Taken m v me) (out : v.entered ≡ false) where
  pub may_collect : (old new : Contents S) → Represents v.seats.about old.store (k m v me t) → old.entered ≡ t.contents.entered → new.entered ≡ old.entered →
      (old.entered ≡ 0 → FreesBelow m v.seats.about (k m v me t) v.seats.number v.seats.about new.store) → (¬ (old.entered ≡ 0) → new ≡ old) → MayEndTurn m ending.Collects (me.0, (0, new) ∷ rest me.1)
  may_collect old new r was same frees kept = ⊎_elim empty busy (cases_eq old.entered 0)
    where
      k0 : Machine S
      k0 = k m v me t

      nobody : (id : ConnId) → Contains v.answered id → ⊥
      nobody id c = none_listed id (rw (t.tidy.unanswered out) at c)

      nothing : (id : ConnId) → Contains v.builds id → ⊥
      nothing id c = none_listed id (rw (t.tidy.idle out) at c)

      empty : old.entered ≡ 0 → MayEndTurn m ending.Collects (me.0, (0, new) ∷ rest me.1)
      empty none =
          let f = frees none in
          let acts : List (Act S A) = map (λ i. Free i) f.ids in
          let legal = f.works.legal in
          let on : state_of m (t.log ++ entries_from m k0 v.seats.number acts) ≡ worked m k0 v.seats.number acts = state_from-append m opening t.log (entries_from m k0 v.seats.number acts) in
          may_end m v me t ending.Collects (record { acts = acts; entered = v.entered; answered = v.answered; builds = v.builds }) new
          (record { ids = f.ids; is = refl; clean = λ _ id dead. f.clean id dead (dead_within m v.seats.about new.store (worked m k0 v.seats.number acts) f.works.represents id dead) }) (record {
            legal = legal;
            represents = rw on f.works.represents;
            bare = rw on (λ id dead way. none_freed m v.seats.about v.seats.number id way f.ids k0 legal (t.bare id (f.before id dead) way));
            counted = omega (arith, same, was, t.counted);
            tidy = record { unanswered = t.tidy.unanswered; idle = t.tidy.idle; place = t.tidy.place };
            stays = record { claimed = λ id c. absurd (nobody id c); built = λ id c. absurd (nothing id c) };
            frees = inr (omega (arith, none, was, t.counted));
          })

      busy : old.entered ≢ 0 → MayEndTurn m ending.Collects (me.0, (0, new) ∷ rest me.1)
      busy some =
          may_end m v me t ending.Collects (record { acts = []; entered = v.entered; answered = v.answered; builds = v.builds }) new
          (record { ids = []; is = refl; clean = λ none. absurd (some (omega (arith, none, was, t.counted))) }) (record {
            legal = tt;
            represents = rw (append-nil t.log, kept some) r;
            bare = rw (append-nil t.log) t.bare;
            counted = omega (arith, same, was, t.counted);
            tidy = record { unanswered = t.tidy.unanswered; idle = t.tidy.idle; place = t.tidy.place };
            stays = record { claimed = λ id c. absurd (nobody id c); built = λ id c. absurd (nothing id c) };
            frees = inl (λ id. refl);
          })

free_entries_are : {S A R : Type 0} (m : Meaning S A R) (pass : Pass (Entry S A R)) (ids : List ConnId) (k1 : Machine S) → entries_from m k1 pass.number (map (λ i. Free i) ids) ≡ free_entries pass ids
free_entries_are m pass [] k1 = refl
free_entries_are {S} {A} {R} m pass (i ∷ ids) k1 =
    ap (λ (es : List (Entry S A R)). entry_of pass (Free i) Nothing ∷ es) (free_entries_are m pass ids (after_act m k1 pass.number (Free i)))

pub record Collected {S A R : Type 0} (m : Meaning S A R) (v next : View S A R) : Type 0 where
  pub legal : IsPass m (show next)
  pub adds : FreesAlone (show v) next.seats.history
  pub clean : IsClean m (show next)

pub collected : {S A R : Type 0} (m : Meaning S A R) (v : View S A R) (me : Me (Contents S) (View S A R)) (t : Taken m v me)
    (lives : v.seats.lives ≡ true) (theirs : v.seats.theirs ≡ []) (place : 1 ≤ length v.seats.readers)
    (out : v.entered ≡ false) (contents : Contents S) (next : Me (Contents S) (View S A R)) (h : HasEnded m ending.Collects (me.0, (0, contents) ∷ rest me.1) next) → Collected m v next.0
collected {S} {A} {R} m v me t lives theirs place out contents next h =
    let f = finished m v me t lives theirs place ending.Collects contents next h in
    let u = taker m v me t in
    let k0 = k m v me t in
    let seat : me.0 ≡ u = ap (λ (y : Me (Contents S) (View S A R)). y.0) t.is in
    let b : CollectsBy m u h.plan = subst (λ (w : View S A R). CollectsBy m w h.plan) seat h.by_plan in
    let history : next.0.seats.history ≡ t.log ++ planned_entries m h.plan u = ap (λ (w : View S A R). w.seats.history) f.view in
    let state : state_of m next.0.seats.history ≡ state_from m k0 (planned_entries m h.plan u) = ap (state_of m) history ∙ state_from-append m opening t.log (planned_entries m h.plan u) in
    record {
      legal = f.legal;
      adds = record {
        ids = b.ids;
        adds = subst (λ (es : List (Entry S A R)). AddsOwn (show v) next.0.seats.history es) (ap (λ (p : Plan S A). planned_entries m p u) b.is ∙ free_entries_are m (show v) b.ids k0) f.adds;
      };
      clean = λ all fresh id dead.
          let places : length next.0.seats.readers ≡ length v.seats.readers = ap (λ (w : View S A R). length w.seats.readers) f.view in
          let none : t.crowd ≡ 0 = t.alone (sym places ∙ all) ∙ ap one_if out in
          let last = b.clean none id (ap (λ l. stage_of l id) (sym state) ∙ dead) in
          let claimed : IsClaimed (stage_of (state_of m next.0.seats.history) id) = rw dead tt in
          let fits = (counts_incarnations m next.0.seats.about next.0.seats.history id.slot f.legal.legal).last in
          let inc = IsClaimed-last ((state_of m next.0.seats.history).slot id.slot) id.inc claimed in
          fresh (inr (record { id = id; claimed = was_claimed m next.0.seats.about next.0.seats.history id f.legal.legal claimed; last = omega (arith, last, fits, inc) }));
    }
