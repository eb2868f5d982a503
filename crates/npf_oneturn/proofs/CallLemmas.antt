-- How the calls of a pass end, and what they leave it.
use Rattle.std.proofs.Common.{◌≡◌, ◌≢◌, ℕ, ◌+◌, ◌≤◌, Bool, true, false, true≢false, List, [], ◌∷◌, ◌++◌, length, Option, Some, None, refl}
use Rattle.std.{proofs.Common.{sym, ap, ◌∙◌, subst, ⊎_elim, inl, inr, arith, append_assoc, append-nil}, specs.List.Contains}
use Rattle.std.proofs.lemmas.Bool.{cases_eq, false_from_ne_true}
use Rattle.atomic_table.specs.Table.{Me, rest}
use Rattle.npf_core.specs.declared.{act.Act.{Act, TheVariants.{Hold, Kill, Free}}, conn_id.ConnId.ConnId, entry.Entry.Entry, found.Found.Found, held.Held.Held}
use Rattle.npf_core.specs.{declared.{reply.Reply.TheVariants.ToHold, stage.Stage.TheVariants.Building}, Allowed.Allows, History.{state_of, by, is_free}}
use Rattle.npf_types.specs.declared.key.{Key.Key, Way.Way}
use Rattle.npf_core.specs.{Machine.{Machine, opening, stage_of, IsClaimed, HoldsNone}, Meaning.Meaning, NextState.after_act, Replies.{reply_of, held_by}}
use Rattle.npf_core.proofs.{BuildingLemmas.holds_none_after, EqualityLemmas.is_id-Decides}
use Rattle.npf_core.proofs.{HistoryLemmas.{state_of-append, state_from-append, LegalFrom-append, LegalFrom-rest, by-append}, HolderLemmas.holders_claimed}
use Rattle.npf_connections.specs.{Adding.AddsOwn, Entries.{entry_of, hold_entries}, Pass.{Pass, IsPass, IsOwn, Knows, all_places}, StayLaw.Holding}
use Rattle.npf_connections.proofs.AddLemmas.{adds_alone}
use Rattle.npf_seats.proofs.PrefixLemmas.{seen_entry, rest_none}
use Rattle.npf_oneturn_store.specs.Represents.{Represents}
use Rattle.npf_oneturn.specs.declared.{contents.Contents.Contents, rule.CallEnding.{CallEnding, TheVariants.{Asks, Nothing}}, view.View.View}
use Rattle.npf_oneturn.specs.{Endings.{entries_from, Plan, planned_entries, ended, EndsBy, act_plan, MayEnd, MayEndTurn, HasEnded}, Taking.{IsResting, Taken}}
use Rattle.npf_oneturn.{specs.Views.{entry_seat, one_if, Stays, show}, proofs.EndLemmas.{own_entries, no_entries}}
use Rattle.npf_oneturn.proofs.StayLemmas.{bare_next, answered_next, builds_next}

abbrev value_in : {X : Type 0} → X → List (ℕ × X) → X
value_in d [] = d
value_in d (x ∷ xs) = x.1

module _ {S A R : Type 0} (m : Meaning S A R) (v : View S A R) (me : Me (Contents S) (View S A R)) (t : Taken m v me) where
  abbrev pub taker : View S A R
  taker = record v { seats = record v.seats { history = t.log }; turn = true; crowd = t.crowd }

  abbrev pub k : Machine S
  k = state_of m t.log

  -- it has the slot's value
  pub has_slot : me.1 ≡ (0, t.contents) ∷ rest me.1
  has_slot = rw t.is refl

  pub value_is : (contents : Contents S) → me.1 ≡ (0, contents) ∷ rest me.1 → t.contents ≡ contents
  value_is contents e = ap (value_in t.contents) (ap (λ (y : Me (Contents S) (View S A R)). y.1) (sym t.is) ∙ e)

  -- the value that it has represents the state
  pub represents_here : (contents : Contents S) → me.1 ≡ (0, contents) ∷ rest me.1 → Represents v.seats.about contents.store k
  represents_here contents e = subst (λ (x : Contents S). Represents v.seats.about x.store k) (value_is contents e) t.represents

  pub entered_here : (contents : Contents S) → me.1 ≡ (0, contents) ∷ rest me.1 → contents.entered ≡ t.contents.entered
  entered_here contents e = ap (λ (x : Contents S). x.entered) (sym (value_is contents e))

  pub may_end : (ending : CallEnding S A) (p : Plan S A) (contents : Contents S) → EndsBy m ending taker p → MayEnd m p taker contents →
      MayEndTurn m ending (me.0, (0, contents) ∷ rest me.1)
  may_end ending p contents by_plan may =
      subst (λ (y : Me (Contents S) (View S A R)). MayEndTurn m ending (y.0, (0, contents) ∷ rest y.1)) (sym t.is)
      (record { contents = contents; has = refl; turn = refl; plan = p; by_plan = by_plan; may = may })

  -- entries of its own that follow what it has seen
  module _ (p : Plan S A) where
    abbrev mine : List (Entry S A R)
    mine = planned_entries m p taker

    others_none : (n : ℕ) → n ≢ v.seats.number → by n mine ≡ []
    others_none n ne = no_entries m v.seats.number n ne k p.acts

    adds_mine : AddsOwn (show v) (t.log ++ mine) mine
    adds_mine = record {
      adds = record {
        rest = t.goes_on.rest ++ mine;
        goes_on = ap (λ h. h ++ mine) t.goes_on.goes_on ∙ append_assoc v.seats.history t.goes_on.rest mine;
        own = by-append v.seats.number t.goes_on.rest mine
            ∙ (ap (λ h. h ++ by v.seats.number mine) (rest_none entry_seat v.seats.number v.seats.history t.log t.goes_on t.own) ∙ own_entries m v.seats.number k p.acts);
        listed = λ n c. by-append n t.goes_on.rest mine ∙ (ap (λ h. h ++ by n mine) (rest_none entry_seat n v.seats.history t.log t.goes_on (t.listed n c)) ∙ others_none n (t.apart n c));
      };
      ends = λ init last e. (t.log ++ init, ap (λ h. t.log ++ h) e ∙ sym (append_assoc t.log init (last ∷ [])));
    }

    module _ (contents : Contents S) (may : MayEnd m p taker contents) where
      alone : length v.seats.readers ≡ all_places → (e : Entry S A R) → Contains (t.log ++ mine) e → IsOwn (show v) e.seat
      alone all e c = ⊎_elim
          (λ (same : e.seat ≡ v.seats.number). inl same)
          (λ (ne : e.seat ≢ v.seats.number). ⊎_elim
          (λ (none : by e.seat t.log ≡ []). absurd (seen_entry entry_seat (t.log ++ mine) e (by-append e.seat t.log mine ∙ (ap (λ h. h ++ by e.seat mine) none ∙ others_none e.seat ne)) c))
          (λ (own : IsOwn (show v) e.seat). own)
          (t.sole all e.seat))
          (cases_eq e.seat v.seats.number)

      shows_pass : IsPass m (show (ended m p taker))
      shows_pass = record {
        legal = LegalFrom-append m v.seats.about opening t.log mine t.legal may.legal;
        stays = may.stays.claimed;
        building = may.stays.built;
        unanswered = may.tidy.unanswered;
        idle = may.tidy.idle;
        alone = alone;
        most = omega arith;
      }

-- what a call leaves that ended by a plan
pub record Finished {S A R : Type 0} (m : Meaning S A R) (v : View S A R) (me : Me (Contents S) (View S A R)) (t : Taken m v me) (p : Plan S A) (next : Me (Contents S) (View S A R)) : Type 0 where
  pub rests : IsResting next
  pub legal : IsPass m (show next.0)
  pub adds : AddsOwn (show v) next.0.seats.history (planned_entries m p (taker m v me t))
  pub view : next.0 ≡ ended m p (taker m v me t)

pub finished : {S A R : Type 0} (m : Meaning S A R) (v : View S A R) (me : Me (Contents S) (View S A R)) (t : Taken m v me)
    (lives : v.seats.lives ≡ true) (theirs : v.seats.theirs ≡ []) (place : 1 ≤ length v.seats.readers)
    (ending : CallEnding S A) (contents : Contents S) (next : Me (Contents S) (View S A R)) (h : HasEnded m ending (me.0, (0, contents) ∷ rest me.1) next) → Finished m v me t h.plan next
finished {S} {A} {R} m v me t lives theirs place ending contents next h =
    let u = taker m v me t in
    let seat : me.0 ≡ u = ap (λ (y : Me (Contents S) (View S A R)). y.0) t.is in
    let none : rest me.1 ≡ [] = ap (λ (y : Me (Contents S) (View S A R)). rest y.1) t.is in
    let view : next.0 ≡ ended m h.plan u = ap (λ (y : Me (Contents S) (View S A R)). y.0) h.is ∙ ap (ended m h.plan) seat in
    let may : MayEnd m h.plan u h.may.0 = subst (λ (w : View S A R). MayEnd m h.plan w h.may.0) seat h.may.1 in
    record {
      rests = record {
        free = ap (λ (y : Me (Contents S) (View S A R)). y.1) h.is ∙ none;
        turn = ap (λ (w : View S A R). w.turn) view;
        lives = ap (λ (w : View S A R). w.seats.lives) view ∙ lives;
        theirs = ap (λ (w : View S A R). w.seats.theirs) view ∙ theirs;
        place = rw view place;
        most = rw view t.most;
      };
      legal = rw view (shows_pass m v me t h.plan h.may.0 may);
      adds = rw view (adds_mine m v me t h.plan);
      view = view;
    }

-- a call of one act in a stay may end
module _ {S A R : Type 0} (m : Meaning S A R) (v : View S A R) (me : Me (Contents S) (View S A R)) (t : Taken m v me) (entered : v.entered ≡ true) where
  not_free : (act : Act S A) → ((id : ConnId) → ¬ (act ≡ Free id)) → (id : ConnId) → is_free id act ≡ false
  not_free act free id = false_from_ne_true (is_free id act) (λ e. free id (freed act id e))
    where
      freed : (act : Act S A) (id : ConnId) → is_free id act ≡ true → act ≡ Free id
      freed (Free other) id e = ap (λ i. Free i) ((is_id-Decides other id).0 e)
      freed act id e = absurd cc

  pub may_ask : (act : Act S A) (contents : Contents S) → Allows m v.seats.about (k m v me t) v.seats.number act →
      ((id : ConnId) → ¬ (act ≡ Free id)) → ((id : ConnId) (why : _) → ¬ (act ≡ Kill id why)) →
      contents.entered ≡ t.contents.entered → Represents v.seats.about contents.store (after_act m (k m v me t) v.seats.number act) → MayEndTurn m (Asks act) (me.0, (0, contents) ∷ rest me.1)
  may_ask act contents allowed free kill same represents =
      let k0 = k m v me t in
      let u = taker m v me t in
      let entry : Entry S A R = record { seat = v.seats.number; act = act; reply = reply_of m k0 act } in
      let on : state_of m (t.log ++ entry ∷ []) ≡ after_act m k0 v.seats.number act = state_of-append m t.log entry in
      let claimed = holders_claimed m v.seats.about t.log t.legal in
      may_end m v me t (Asks act) (act_plan m act u) contents refl (record {
        legal = (record { allowed = allowed; replied = refl }, tt);
        represents = rw on represents;
        bare = rw on (bare_next m v.seats.about k0 v.seats.number act allowed kill t.bare);
        counted = omega (arith, same, t.counted);
        tidy = record { unanswered = λ out. absurd (true≢false (sym entered ∙ out)); idle = λ out. absurd (true≢false (sym entered ∙ out)); place = t.tidy.place };
        stays = record {
          claimed = λ id c. rw on (answered_next m v.seats.about k0 v.seats.number claimed v.answered act allowed free t.stays.claimed id c);
          built = λ id c. rw on (builds_next m v.seats.about k0 v.seats.number v.builds act allowed t.stays.built id c);
        };
        frees = inl (λ id. let none = not_free act free id in rw none refl);
      })

-- a call without an act may end
module _ {S A R : Type 0} (m : Meaning S A R) (v : View S A R) (me : Me (Contents S) (View S A R)) (t : Taken m v me) where
  pub may_rest : (ending : CallEnding S A) (entered : Bool) (answered builds : List ConnId) (contents : Contents S) →
      EndsBy m ending (taker m v me t) (record { acts = []; entered = entered; answered = answered; builds = builds }) →
      Represents v.seats.about contents.store (k m v me t) → contents.entered + one_if v.entered ≡ t.contents.entered + one_if entered →
      (entered ≡ false → answered ≡ []) → (entered ≡ false → builds ≡ []) → 1 ≤ length v.seats.readers →
      ((id : ConnId) → Contains answered id → IsClaimed (stage_of (k m v me t) id)) →
      ((id : ConnId) → Contains builds id → stage_of (k m v me t) id ≡ Building v.seats.number) → MayEndTurn m ending (me.0, (0, contents) ∷ rest me.1)
  may_rest ending entered answered builds contents by_plan represents counted unanswered idle place claimed built =
      may_end m v me t ending (record { acts = []; entered = entered; answered = answered; builds = builds }) contents by_plan (record {
        legal = tt;
        represents = rw (append-nil t.log) represents;
        bare = rw (append-nil t.log) t.bare;
        counted = omega (arith, counted, t.counted);
        tidy = record { unanswered = unanswered; idle = idle; place = λ _. place };
        stays = record { claimed = λ id c. rw (append-nil t.log) (claimed id c); built = λ id c. rw (append-nil t.log) (built id c) };
        frees = inl (λ id. refl);
      })

-- what the end of a call without an act leaves
pub rested : {S A R : Type 0} (m : Meaning S A R) (v : View S A R) (me : Me (Contents S) (View S A R)) (t : Taken m v me)
    (lives : v.seats.lives ≡ true) (theirs : v.seats.theirs ≡ []) (place : 1 ≤ length v.seats.readers)
    (ending : CallEnding S A) (contents : Contents S) (next : Me (Contents S) (View S A R)) (h : HasEnded m ending (me.0, (0, contents) ∷ rest me.1) next) → h.plan.acts ≡ [] →
    AddsOwn (show v) next.0.seats.history [] × IsPass m (show next.0)
rested m v me t lives theirs place ending contents next h none =
    let f = finished m v me t lives theirs place ending contents next h in
    let u = taker m v me t in
    (subst (λ (acts : List (Act _ _)). AddsOwn (show v) next.0.seats.history (entries_from m (k m v me t) v.seats.number acts)) none f.adds, f.legal)

-- what a call that asks for nothing leaves to a pass that owns all reader places: it is as it was, and had seen all
pub record IsLeft {S A R : Type 0} (m : Meaning S A R) (v : View S A R) (me : Me (Contents S) (View S A R)) (t : Taken m v me) (next : Me (Contents S) (View S A R)) : Type 0 where
  pub legal : IsPass m (show next.0)
  pub same : show next.0 ≡ show v
  pub newest : t.log ≡ v.seats.history

pub left : {S A R : Type 0} (m : Meaning S A R) (v : View S A R) (me : Me (Contents S) (View S A R)) (t : Taken m v me) (lives : v.seats.lives ≡ true)
    (theirs : v.seats.theirs ≡ []) (place : 1 ≤ length v.seats.readers) (all : length v.seats.readers ≡ all_places)
    (contents : Contents S) (next : Me (Contents S) (View S A R)) (h : HasEnded m Nothing (me.0, (0, contents) ∷ rest me.1) next) → IsLeft m v me t next
left {S} {A} {R} m v me t lives theirs place all contents next h =
    let r = rested m v me t lives theirs place Nothing contents next h (ap (λ (p : Plan S A). p.acts) h.by_plan) in
    let u = taker m v me t in
    let f = finished m v me t lives theirs place Nothing contents next h in
    let plan : h.plan ≡ record { acts = []; entered = v.entered; answered = v.answered; builds = v.builds } =
    h.by_plan ∙ ap (λ (y : Me (Contents S) (View S A R)). record { acts = []; entered = y.0.entered; answered = y.0.answered; builds = y.0.builds }) t.is in
    let shown : show next.0 ≡ record (show v) { history = t.log ++ [] } = ap (λ (w : View S A R). show w) (f.view ∙ ap (λ (p : Plan S A). ended m p u) plan) in
    let places : length next.0.seats.readers ≡ all_places = ap (λ (p : Pass (Entry S A R)). p.places) shown ∙ all in
    let mine : next.0.seats.history ≡ v.seats.history ++ [] =
    adds_alone m (show v) (show next.0) [] r.1 places (ap (λ (p : Pass (Entry S A R)). p.number) shown) (ap (λ (p : Pass (Entry S A R)). p.joined) shown) r.0.adds in
    let newest : t.log ++ [] ≡ v.seats.history = sym (ap (λ (p : Pass (Entry S A R)). p.history) shown) ∙ (mine ∙ append-nil v.seats.history) in
    record {
      legal = r.1;
      same = shown ∙ ap (λ (history : List (Entry S A R)). record (show v) { history = history }) newest;
      newest = sym (append-nil t.log) ∙ newest;
    }

-- what a pass knows is claimed at its turn
pub known_claimed : {S A R : Type 0} (k0 : Machine S) (v : View S A R) (id : ConnId) → Stays k0 v → Knows (show v) id → IsClaimed (stage_of k0 id)
known_claimed k0 v id stays (inl c) = stays.claimed id c
known_claimed k0 v id stays (inr c) = rw (stays.built id c) tt

module _ {S A R : Type 0} (m : Meaning S A R) (v : View S A R) (me : Me (Contents S) (View S A R)) (t : Taken m v me) (pass : IsPass m (show v)) where
  -- what a connection that the pass builds lacks it lacks still
  pub still_none : (id : ConnId) (way : Way) → Contains v.builds id → HoldsNone (state_of m v.seats.history) id way → HoldsNone (k m v me t) id way
  still_none id way builds none =
      let legal = LegalFrom-rest m v.seats.about opening v.seats.history t.goes_on.rest (rw t.goes_on.goes_on at t.legal) in
      rw (t.goes_on.goes_on, state_from-append m opening v.seats.history t.goes_on.rest)
      (holds_none_after m v.seats.about (state_of m v.seats.history) t.goes_on.rest v.seats.number id way legal
      (rest_none entry_seat v.seats.number v.seats.history t.log t.goes_on t.own) (pass.building id builds) none)

hold_entry : {S A R : Type 0} (pass : Pass (Entry S A R)) (id : ConnId) (key : Key) (way : Way) (x : Option Found) →
    entry_of pass (Hold id key way) (ToHold (held_by x)) ∷ [] ≡ hold_entries pass id key way (held_by x)
hold_entry pass id key way None = refl
hold_entry pass id key way (Some found) = refl

-- what a call of one act leaves
pub record Asked {S A R : Type 0} (m : Meaning S A R) (v : View S A R) (me : Me (Contents S) (View S A R)) (t : Taken m v me) (act : Act S A) (next : Me (Contents S) (View S A R)) : Type 0 where
  pub rests : IsResting next
  pub legal : IsPass m (show next.0)
  pub adds : AddsOwn (show v) next.0.seats.history (entry_of (show v) act (reply_of m (k m v me t) act) ∷ [])
  pub view : next.0 ≡ ended m (act_plan m act (taker m v me t)) (taker m v me t)

pub asked : {S A R : Type 0} (m : Meaning S A R) (v : View S A R) (me : Me (Contents S) (View S A R)) (t : Taken m v me)
    (lives : v.seats.lives ≡ true) (theirs : v.seats.theirs ≡ []) (place : 1 ≤ length v.seats.readers)
    (act : Act S A) (contents : Contents S) (next : Me (Contents S) (View S A R)) (h : HasEnded m (Asks act) (me.0, (0, contents) ∷ rest me.1) next) → Asked m v me t act next
asked m v me t lives theirs place act contents next h =
    let f = finished m v me t lives theirs place (Asks act) contents next h in
    let u = taker m v me t in
    let plan : h.plan ≡ act_plan m act u = h.by_plan ∙ ap (λ (y : Me (Contents _) (View _ _ _)). act_plan m act y.0) t.is in
    record {
      rests = f.rests;
      legal = f.legal;
      adds = subst (λ (p : Plan _ _). AddsOwn (show v) next.0.seats.history (planned_entries m p u)) plan f.adds;
      view = f.view ∙ ap (λ (p : Plan _ _). ended m p u) plan;
    }

-- what a hold leaves
pub held_so : {S A R : Type 0} (m : Meaning S A R) (v : View S A R) (me : Me (Contents S) (View S A R)) (t : Taken m v me)
    (lives : v.seats.lives ≡ true) (theirs : v.seats.theirs ≡ []) (place : 1 ≤ length v.seats.readers)
    (pass : IsPass m (show v)) (id : ConnId) (key : Key) (way : Way) (result : Held) (builds : Contains v.builds id) (none : HoldsNone (state_of m v.seats.history) id way)
    (contents : Contents S) (next : Me (Contents S) (View S A R)) (h : HasEnded m (Asks (Hold id key way)) (me.0, (0, contents) ∷ rest me.1) next) →
    result ≡ held_by ((k m v me t).holder key) → Holding m (show v) (show next.0) id key way result
held_so m v me t lives theirs place pass id key way result builds none contents next h replied =
    let a = asked m v me t lives theirs place (Hold id key way) contents next h in
    record {
      before = pass;
      after = a.legal;
      builds = builds;
      none = none;
      slots = ap (λ (w : View _ _ _). w.seats.about) a.view;
      adds = rw (replied, ← hold_entry (show v) id key way ((k m v me t).holder key)) a.adds;
    }
