-- How connections are killed in a turn as due.
use Rattle.std.proofs.Common.{◌≡◌, ◌≢◌, ℕ, ◌+◌, Bool, true, false, ◌==◌, List, [], ◌∷◌, ◌++◌, map, cond, refl, sym, ap, ◌∙◌, subst, ⊎_elim, arith, append-nil, append_assoc, length-append}
use Rattle.std.{specs.List.Contains, proofs.lemmas.Bool.{cases_eq, false_from_ne_true, Decides.Decides-eqb}}
use Rattle.std.proofs.lemmas.List.Elements.{Contains-append_cases, Contains-append_left, Contains-append_right, Contains-push}
use Rattle.npf_types.specs.declared.key.Way.{Way}
use Rattle.npf_core.specs.{declared.{act.{Act.Act, Why.TheVariants.Expired}, conn_id.ConnId.ConnId, stage.Stage.{Stage, TheVariants.Vacant}}, Allowed.IsDue}
use Rattle.npf_core.specs.{History.frees, Machine.{Machine, stage_at, stage_of, IsClaimed, HoldsNone}, Meaning.Meaning, NextState.after_act}
use Rattle.npf_core.proofs.{EqualityLemmas.same_conn_id, HistoryLemmas.frees-append, LifeLemmas.{IsClaimed-last, IsDue-claimed}}
use Rattle.npf_connections.specs.Expiring.{Killed}
use Rattle.npf_oneturn_store.specs.{declared.{connection.Connection.Connection, store.Store.Store}, Store.IsDuePhase, Connection.phase_at}
use Rattle.npf_oneturn_store.specs.declared.phase.SlotPhase.TheVariants as phase
use Rattle.npf_oneturn_store.specs.Represents.{Represents}
use Rattle.npf_oneturn.specs.{Endings.{entries_from, end_acts, expiry_acts}, Rule.DeadHoldNone, Work.{worked, Works, EndsConnection, ExpiresAt, ExpiresBelow}}
use Rattle.npf_oneturn.proofs.AbandonLemmas.{bare_worked}
use Rattle.npf_seats.proofs.PrefixLemmas.{none_listed, cons_cases}
use Rattle.npf_oneturn.proofs.WorkLemmas.{AllEnd, IsEndAct, kills, unholds, all_end, none_on, frees_none, works_none, works_more, worked-append, entries-append}

-- two claimed identities of one slot are one
one_claimed : {S : Type 0} (k : Machine S) (id other : ConnId) → IsClaimed (stage_of k id) → IsClaimed (stage_of k other) → other.slot ≡ id.slot → other ≡ id
one_claimed k id other h g e =
    let mine = IsClaimed-last (k.slot id.slot) id.inc h in
    let theirs = IsClaimed-last (k.slot other.slot) other.inc g in
    same_conn_id other id (e, sym theirs ∙ (ap (λ s. (k.slot s).inc) e ∙ mine))

module _ {S A R : Type 0} (m : Meaning S A R) (slots : ℕ) (seat : ℕ) (id : ConnId) (s : ℕ) (ne : s ≢ id.slot) where
  end_elsewhere : (act : Act S A) → IsEndAct id act → (k : Machine S) → (after_act m k seat act).slot s ≡ k.slot s
  end_elsewhere act (unholds way e) k = rw e refl
  end_elsewhere act (kills why e) k =
      let apart : (id.slot == s) ≡ false = false_from_ne_true (id.slot == s) (λ t. ne (sym ((Decides-eqb id.slot s).0 t))) in
      rw (e, apart) refl

  -- what ends a connection leaves other slots alone
  elsewhere : (acts : List (Act S A)) → AllEnd id acts → (k : Machine S) → (worked m k seat acts).slot s ≡ k.slot s
  elsewhere [] all k = refl
  elsewhere (act ∷ acts) all k = elsewhere acts all.1 (after_act m k seat act) ∙ end_elsewhere act all.0 k

expiry-append : {S A : Type 0} (now : ℕ) (xs ys : List Killed) → expiry_acts {S = S} {A = A} now (xs ++ ys) ≡ expiry_acts now xs ++ expiry_acts now ys
expiry-append now [] ys = refl
expiry-append {S} {A} now (x ∷ xs) ys =
    ap (λ (acts : List (Act S A)). end_acts x.id (Expired now) x.held ++ acts) (expiry-append now xs ys)
    ∙ sym (append_assoc (end_acts x.id (Expired now) x.held) (expiry_acts now xs) (expiry_acts now ys))

ids-append : (xs ys : List Killed) → map (λ (x : Killed). x.id) (xs ++ ys) ≡ map (λ (x : Killed). x.id) xs ++ map (λ (x : Killed). x.id) ys
ids-append [] ys = refl
ids-append (x ∷ xs) ys = ap (λ zs. x.id ∷ zs) (ids-append xs ys)

module _ {S A R : Type 0} (m : Meaning S A R) (slots : ℕ) (k : Machine S) (seat now : ℕ) where
  -- the slot's connection was due and is killed
  pub expires_at : (id : ConnId) (slot : ℕ) (store : Store S) → id.slot ≡ slot → IsDue m now (stage_of k id) → (e : EndsConnection m slots k seat id (Expired now) store) →
      ((way : Way) → HoldsNone (worked m k seat (end_acts id (Expired now) e.held)) id way) → ExpiresAt m slots k seat now slot 1 store
  expires_at id slot store here due e none =
      let acts : List (Act S A) = end_acts id (Expired now) e.held in
      let all = all_end S A id (Expired now) e.held in
      let same : acts ≡ acts ++ [] = sym (append-nil acts) in
      record {
        killed = record { id = id; held = e.held } ∷ [];
        works = subst (λ (xs : List (Act S A)). Works m slots k seat store xs) same e.works;
        counted = refl;
        bare = λ bare. subst (λ (xs : List (Act S A)). DeadHoldNone (worked m k seat xs)) same (bare_worked m slots k seat id acts e.held (Expired now) refl e.works.legal bare none);
        unfreed = λ other. subst (λ (xs : List (Act S A)). frees other (entries_from m k seat xs) ≡ []) same (frees_none m seat id other acts all k);
        gave_up = λ other way c. ⊎_elim
            (λ (is : id ≡ other). subst (λ i. HoldsNone (worked m k seat (acts ++ [])) i way) is (subst (λ (xs : List (Act S A)). HoldsNone (worked m k seat xs) id way) same (none way)))
            (λ (n : Contains [] other). absurd (none_listed other n))
            (cons_cases id other [] c);
        gives_none = λ other way h. subst (λ (xs : List (Act S A)). HoldsNone (worked m k seat xs) other way) same (none_on m slots seat id other acts all k e.works.legal way h);
        others = λ other ne. subst (λ (xs : List (Act S A)). stage_of (worked m k seat xs) other ≡ stage_of k other) same
            (ap (λ x. stage_at x other.inc) (elsewhere m slots seat id other.slot (λ f. ne (f ∙ here)) acts all k));
        due = λ other there h.
            let is = one_claimed k id other (IsDue-claimed m now (stage_of k id) due) (IsDue-claimed m now (stage_of k other) h) (there ∙ sym here) in
            subst (λ i. Contains (id ∷ []) i) (sym is) (Contains-push [] id);
      }

  -- none was due
  pub expires_none : (slot : ℕ) (store : Store S) → Represents slots store k → ((id : ConnId) → id.slot ≡ slot → ¬ IsDue m now (stage_of k id)) → ExpiresAt m slots k seat now slot 0 store
  expires_none slot store r idle = record {
    killed = [];
    works = works_none m slots seat k store r;
    counted = refl;
    bare = λ bare. bare;
    unfreed = λ id. refl;
    gave_up = λ id way c. absurd (none_listed id c);
    gives_none = λ id way h. h;
    others = λ id ne. refl;
    due = λ id there h. absurd (idle id there h);
  }

  -- a slot's phase is that of its last incarnation
  pub idle_phase : (x : Connection S) (inc : ℕ) → ¬ IsDuePhase m now x.phase → ¬ IsDuePhase m now (phase_at x inc)
  idle_phase x inc idle h = by_test (x.inc == inc) h
    where
      by_test : (test : Bool) → IsDuePhase m now (cond test x.phase phase.Vacant) → ⊥
      by_test true h = idle h
      by_test false h = h

  -- no slot yet
  pub expires_first : (store : Store S) → Represents slots store k → ExpiresBelow m slots k seat now 0 0 store
  expires_first store r = record {
    killed = [];
    works = works_none m slots seat k store r;
    counted = refl;
    bare = λ bare. bare;
    unfreed = λ id. refl;
    gave_up = λ id way c. absurd (none_listed id c);
    others = λ id h. refl;
    due = λ id below. absurd (omega (arith, below));
  }

  -- and the next slot
  pub expires_next : (slot count ended : ℕ) (old new : Store S) → (f : ExpiresBelow m slots k seat now slot count old) →
      ExpiresAt m slots (worked m k seat (expiry_acts now f.killed)) seat now slot ended new → ExpiresBelow m slots k seat now (slot + 1) (count + ended) new
  expires_next slot count ended old new f next =
      let xs = f.killed in
      let ys = next.killed in
      let k1 = worked m k seat (expiry_acts now xs) in
      let both : expiry_acts {S = S} {A = A} now (xs ++ ys) ≡ expiry_acts now xs ++ expiry_acts now ys = expiry-append now xs ys in
      let all = works_more m slots seat k old new (expiry_acts now xs) (expiry_acts now ys) f.works next.works in
      let on : worked m k seat (expiry_acts now (xs ++ ys)) ≡ worked m k1 seat (expiry_acts now ys) =
      ap (worked m k seat) both ∙ worked-append m seat k (expiry_acts now xs) (expiry_acts now ys) in
      record {
        killed = xs ++ ys;
        works = subst (λ (acts : List (Act S A)). Works m slots k seat new acts) (sym both) all;
        counted = let sum = length-append xs ys in omega (arith, sum, f.counted, next.counted);
        bare = λ bare. rw on (next.bare (f.bare bare));
        unfreed = λ id. rw (
          both,
          entries-append m seat k (expiry_acts now xs) (expiry_acts now ys),
          frees-append id (entries_from m k seat (expiry_acts now xs)) (entries_from m k1 seat (expiry_acts now ys)),
          f.unfreed id,
        ) (next.unfreed id);
        gave_up = λ id way c. ⊎_elim
            (λ d. rw on (next.gives_none id way (f.gave_up id way d)))
            (λ d. rw on (next.gave_up id way d))
            (Contains-append_cases (map (λ (x : Killed). x.id) xs) (map (λ (x : Killed). x.id) ys) id (rw (ids-append xs ys) at c));
        others = λ id past. ap (λ l. stage_of l id) on ∙ (next.others id (λ e. absurd (omega (arith, past, e))) ∙ f.others id (omega (arith, past)));
        due = λ id below h. rw (ids-append xs ys) (⊎_elim
            (λ (e : id.slot ≡ slot). Contains-append_right (map (λ (x : Killed). x.id) xs) (map (λ (x : Killed). x.id) ys) id
            (next.due id e (subst (λ (stage : Stage S). IsDue m now stage) (sym (f.others id (omega (arith, e)))) h)))
            (λ (ne : id.slot ≢ slot). Contains-append_left (map (λ (x : Killed). x.id) xs) (map (λ (x : Killed). x.id) ys) id (f.due id (omega (arith, below, ne)) h))
            (cases_eq id.slot slot));
      }
