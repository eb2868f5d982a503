-- How a connection is abandoned in a turn.
use Rattle.std.proofs.Common.{◌≡◌, ◌≢◌, ◌⊎◌, ◌==◌, ◌≤◌, ℕ, true, false, true≢false, Bool, List, [], ◌∷◌, ◌++◌, map, Option, Some, refl, sym, ap, ◌∙◌, subst, ⊎_elim, inl, inr, arith, length}
use Rattle.std.{specs.List.{Contains, filter}, proofs.lemmas.Bool.Decides.{Decides-eqb, not_from_Decides}}
use Rattle.atomic_table.specs.Table.{Me, rest}
use Rattle.npf_types.specs.declared.key.{Key.Key, Way.Way}
use Rattle.npf_shelf.proofs.ListLemmas.{filter-cons_nil}
use Rattle.npf_core.specs.declared.{act.{Act.{Act, TheVariants.{Kill, Unhold}}, Why.TheVariants.Abandoned}, conn_id.ConnId.ConnId, entry.Entry.Entry}
use Rattle.npf_core.specs.declared.{found.Found.Found, reply.Reply.TheVariants.Nothing, stage.Stage.TheVariants.Building}
use Rattle.npf_core.specs.{History.{LegalFrom, MayFollow, after, state_of, state_from, by}, Machine.{Machine, opening, stage_of, HoldsNone}, Meaning.Meaning}
use Rattle.npf_core.{specs.NextState.{is_id, after_act}, proofs.{BuildingLemmas.{builds_by, builds_after}, EqualityLemmas.is_id-Decides}}
use Rattle.npf_core.proofs.{HistoryLemmas.{LegalFrom-rest, state_from-append}, HolderLemmas.{Passes, rests, gives, loses, passes, may_hold}}
use Rattle.npf_core.proofs.KeyLemmas.{stays_holder}
use Rattle.npf_connections.specs.{Abandoning.Abandons, Adding.AddsOwn, Answered.without, Entries.{end_entries, entry_of}, Pass.{Pass, IsPass}}
use Rattle.npf_connections.{specs.Ways.{HoldsThese, all_ways}, proofs.WithoutLemmas.Contains-without_parts}
use Rattle.npf_oneturn.specs.declared.{contents.Contents.Contents, view.View.View}
use Rattle.npf_oneturn.specs.declared.rule.CallEnding.TheVariants as ending
use Rattle.npf_oneturn.specs.{Endings.{entries_from, end_acts, Plan, planned_entries, AbandonsBy, MayEndTurn, HasEnded}, Rule.DeadHoldNone, Taking.Taken}
use Rattle.npf_oneturn.{specs.{Views.{entry_seat, show}, Work.{worked, EndsConnection}}, proofs.CallLemmas.{k, taker, may_end, finished}}
use Rattle.npf_seats.proofs.PrefixLemmas.{rest_none}
use Rattle.npf_oneturn.proofs.WorkLemmas.{AllEnd, all_end, none_on, claimed_on, built_on, dead_back, frees_none}

same_id : (id other : ConnId) → (other ≡ id) ⊎ (other ≢ id)
same_id id other = by_test (is_id other id) refl
  where
    by_test : (test : Bool) → is_id other id ≡ test → (other ≡ id) ⊎ (other ≢ id)
    by_test true e = inl ((is_id-Decides other id).0 e)
    by_test false e = inr (not_from_Decides _ (is_id-Decides other id) e)

module _ {S A R : Type 0} (m : Meaning S A R) (slots : ℕ) (k0 : Machine S) (seat : ℕ) (id : ConnId) (acts : List (Act S A)) where
  -- what is Dead holds no key after the end of one connection, which gave up its keys
  pub bare_worked : (held : Way → Bool) → (why : _) → acts ≡ end_acts id why held → LegalFrom m slots k0 (entries_from m k0 seat acts) → DeadHoldNone k0 →
      ((way : Way) → HoldsNone (worked m k0 seat acts) id way) → DeadHoldNone (worked m k0 seat acts)
  bare_worked held why is legal bare mine other dead way =
      let all = subst (λ (xs : List (Act S A)). AllEnd id xs) (sym is) (all_end S A id why held) in
      ⊎_elim
      (λ (e : other ≡ id). subst (λ i. HoldsNone (worked m k0 seat acts) i way) (sym e) (mine way))
      (λ (ne : other ≢ id). none_on m slots seat id other acts all k0 legal way (bare other (dead_back m slots seat id other ne acts all k0 legal dead) way))
      (same_id id other)

-- the keys of a connection that is building were given by its own seat
module _ {S A R : Type 0} (m : Meaning S A R) (slots : ℕ) (seat : ℕ) (id : ConnId) (way : Way) (key : Key) where
  was_passed : (k1 : Machine S) (entry : Entry S A R) → MayFollow m slots k1 entry → ¬ (entry.seat ≡ seat) → stage_of k1 id ≡ Building seat → (x y : Option Found) → Passes entry.act key x y →
      y ≡ Some (record { id = id; way = way }) → x ≡ Some (record { id = id; way = way })
  was_passed k1 entry follows ne built _ _ rests e = e
  was_passed k1 entry follows ne built _ _ (gives found is) e =
      let same : found ≡ record { id = id; way = way } = cc in
      let theirs = (may_hold m slots k1 entry.seat entry.act found.id key found.way is follows.allowed).built in
      let both = sym theirs ∙ (ap (λ (f : Found). stage_of k1 f.id) same ∙ built) in
      absurd (ne cc)
  was_passed k1 entry follows ne built _ _ (loses found is) e = absurd cc

  pub held_before : (k1 : Machine S) (entries : List (Entry S A R)) → LegalFrom m slots k1 entries → by seat entries ≡ [] → stage_of k1 id ≡ Building seat →
      (state_from m k1 entries).holder key ≡ Some (record { id = id; way = way }) → k1.holder key ≡ Some (record { id = id; way = way })
  held_before k1 [] legal none built h = h
  held_before k1 (entry ∷ entries) legal none built h =
      let first = filter-cons_nil (λ (x : Entry S A R). x.seat == seat) entry entries none in
      let ne : ¬ (entry.seat ≡ seat) = not_from_Decides _ (Decides-eqb entry.seat seat) first.0 in
      was_passed k1 entry legal.0 ne built _ _ (passes entry.act key (k1.holder key))
      (held_before (after m k1 entry) entries legal.1 first.1 (builds_by m slots k1 entry seat id legal.0 ne built) h)

module _ {S A R : Type 0} (m : Meaning S A R) (v : View S A R) (me : Me (Contents S) (View S A R)) (t : Taken m v me) (id : ConnId) (builds : Contains v.builds id) (entered : v.entered ≡ true) where
  -- the turn may end by it
  pub may_abandon : (contents : Contents S) → contents.entered ≡ t.contents.entered → (ends : EndsConnection m v.seats.about (k m v me t) v.seats.number id Abandoned contents.store) →
      ((way : Way) → HoldsNone (worked m (k m v me t) v.seats.number (end_acts id Abandoned ends.held)) id way) → MayEndTurn m (ending.Abandons id) (me.0, (0, contents) ∷ rest me.1)
  may_abandon contents same ends none =
      let k0 = k m v me t in
      let acts : List (Act S A) = end_acts id Abandoned ends.held in
      let all = all_end S A id Abandoned ends.held in
      let legal = ends.works.legal in
      let on : state_of m (t.log ++ entries_from m k0 v.seats.number acts) ≡ worked m k0 v.seats.number acts = state_from-append m opening t.log (entries_from m k0 v.seats.number acts) in
      may_end m v me t (ending.Abandons id) (record { acts = acts; entered = v.entered; answered = v.answered; builds = without id v.builds }) contents
      (record { held = ends.held; holds = ends.holds; is = refl }) (record {
        legal = legal;
        represents = rw on ends.works.represents;
        bare = rw on (bare_worked m v.seats.about k0 v.seats.number id acts ends.held Abandoned refl legal t.bare none);
        counted = omega (arith, same, t.counted);
        tidy = record { unanswered = λ out. absurd (true≢false (sym entered ∙ out)); idle = λ out. absurd (true≢false (sym entered ∙ out)); place = t.tidy.place };
        stays = record {
          claimed = λ i c. rw on (claimed_on m v.seats.about v.seats.number id i acts all k0 legal (t.stays.claimed i c));
          built = λ i c. let left = Contains-without_parts i id v.builds c in rw on (built_on m v.seats.about v.seats.number id i left.1 acts all k0 legal (t.stays.built i left.0));
        };
        frees = inl (λ i. frees_none m v.seats.number id i acts all k0);
      })

  -- what it held at its turn it held before
  pub held_then : IsPass m (show v) → (held : Way → Bool) → HoldsThese (k m v me t) id held → HoldsThese (state_of m v.seats.history) id held
  held_then pass held holds way =
      let k1 = state_of m v.seats.history in
      let legal = LegalFrom-rest m v.seats.about opening v.seats.history t.goes_on.rest (rw t.goes_on.goes_on at t.legal) in
      let others = rest_none entry_seat v.seats.number v.seats.history t.log t.goes_on t.own in
      let built = pass.building id builds in
      let now : stage_of (state_from m k1 t.goes_on.rest) id ≡ Building v.seats.number = builds_after m v.seats.about k1 t.goes_on.rest v.seats.number id legal others built in
      let on : k m v me t ≡ state_from m k1 t.goes_on.rest = ap (state_of m) t.goes_on.goes_on ∙ state_from-append m opening v.seats.history t.goes_on.rest in (
        λ h. (holds way).0 (h.0, rw on (stays_holder m v.seats.about k1 t.goes_on.rest h.0 (record { id = id; way = way }) legal h.1 (rw built tt) (rw now tt))),
        λ e. let h = (holds way).1 e in (h.0, held_before m v.seats.about v.seats.number id way h.0 k1 t.goes_on.rest legal others built (rw on at h.1)),
      )

-- entries of acts that end a connection
unhold_entries : {S A R : Type 0} (m : Meaning S A R) (pass : Pass (Entry S A R)) (id : ConnId) (ways : List Way) (k1 : Machine S) →
    entries_from m k1 pass.number (map (λ way. Unhold id way) ways) ≡ map (λ way. entry_of pass (Unhold id way) Nothing) ways
unhold_entries m pass id [] k1 = refl
unhold_entries {S} {A} {R} m pass id (way ∷ ways) k1 =
    ap (λ (es : List (Entry S A R)). entry_of pass (Unhold id way) Nothing ∷ es) (unhold_entries m pass id ways (after_act m k1 pass.number (Unhold id way)))

pub ending_entries : {S A R : Type 0} (m : Meaning S A R) (pass : Pass (Entry S A R)) (id : ConnId) (why : _) (held : Way → Bool) (k1 : Machine S) →
    entries_from m k1 pass.number (end_acts id why held) ≡ end_entries pass id why held
ending_entries {S} {A} {R} m pass id why held k1 =
    ap (λ (es : List (Entry S A R)). entry_of pass (Kill id why) Nothing ∷ es) (unhold_entries m pass id (filter held all_ways) (after_act m k1 pass.number (Kill id why)))

pub abandoned : {S A R : Type 0} (m : Meaning S A R) (v : View S A R) (me : Me (Contents S) (View S A R)) (t : Taken m v me)
    (lives : v.seats.lives ≡ true) (theirs : v.seats.theirs ≡ []) (place : 1 ≤ length v.seats.readers)
    (pass : IsPass m (show v)) (id : ConnId) (builds : Contains v.builds id) (entered : v.entered ≡ true) (contents : Contents S) (next : Me (Contents S) (View S A R))
    (h : HasEnded m (ending.Abandons id) (me.0, (0, contents) ∷ rest me.1) next) → Abandons m (show v) next.0.seats.history id × IsPass m (show next.0)
abandoned {S} {A} {R} m v me t lives theirs place pass id builds entered contents next h =
    let f = finished m v me t lives theirs place (ending.Abandons id) contents next h in
    let u = taker m v me t in
    let seat : me.0 ≡ u = ap (λ (y : Me (Contents S) (View S A R)). y.0) t.is in
    let b : AbandonsBy m id u h.plan = subst (λ (w : View S A R). AbandonsBy m id w h.plan) seat h.by_plan in (
      record {
        held = b.held;
        holds = held_then m v me t id builds entered pass b.held b.holds;
        adds = subst (λ (es : List (Entry S A R)). AddsOwn (show v) next.0.seats.history es)
            (ap (λ (p : Plan S A). planned_entries m p u) b.is ∙ ending_entries m (show v) id Abandoned b.held (k m v me t)) f.adds;
      },
      f.legal,
    )
