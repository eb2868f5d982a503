-- Acts one after the other, in one turn.
use Rattle.std.proofs.Common.{◌≡◌, ◌≢◌, ℕ, Bool, true, false, List, [], ◌∷◌, ◌++◌, map, IsTrue, Option, Some, None, cond, refl, sym, ap, ◌∙◌, subst}
use Rattle.std.{specs.List.filter, proofs.lemmas.Bool.false_from_ne_true}
use Rattle.npf_types.specs.declared.key.{Key.Key, Way.{Way, TheVariants.{Forward, Backward, Port}}}
use Rattle.npf_core.specs.declared.act.{Act.{Act, TheVariants.{Claim, Look, Hold, Start, Step, Kill, Unhold, Free}}, Why.Why}
use Rattle.npf_core.specs.declared.{act.Why.TheVariants.{Abandoned, Expired}, conn_id.ConnId.ConnId, entry.Entry.Entry, found.Found.Found, stage.Stage.Stage}
use Rattle.npf_core.specs.{declared.stage.Stage.TheVariants.{Vacant, Building, Live, Dead}, Allowed.{Allows, IsDue}}
use Rattle.npf_core.specs.{History.{LegalFrom, state_from, frees, is_free}, Machine.{Machine, stage_of, IsAlive, IsClaimed, HoldsSome, HoldsNone}}
use Rattle.npf_core.specs.{Meaning.Meaning, NextState.{after_act, is_id, is_way, is_found, given_up}, Replies.reply_of}
use Rattle.npf_core.proofs.{EqualityLemmas.{is_found-Decides, is_id-Decides}, HistoryLemmas.{state_from-append, LegalFrom-append}}
use Rattle.npf_connections.specs.Ways.{all_ways, HoldsThese}
use Rattle.npf_oneturn_store.specs.{declared.store.Store.Store, Represents.Represents}
use Rattle.npf_oneturn.{proofs.StayLemmas.{claimed_next, built_next, dead_move, none_next}, specs.Endings.{entries_from, end_acts}}
use Rattle.npf_core.proofs.LifeLemmas.{stage_of-is, moves}
use Rattle.npf_oneturn.specs.Work.{worked, Works, unhold_if, GivesUp, EndsConnection}

module _ {S A R : Type 0} (m : Meaning S A R) (seat : ℕ) where
  pub entries-append : (k : Machine S) (xs ys : List (Act S A)) → entries_from m k seat (xs ++ ys) ≡ entries_from m k seat xs ++ entries_from m (worked m k seat xs) seat ys
  entries-append k [] ys = refl
  entries-append k (x ∷ xs) ys = ap (λ (es : List (Entry S A R)). record { seat = seat; act = x; reply = reply_of m k x } ∷ es) (entries-append (after_act m k seat x) xs ys)

  pub worked-append : (k : Machine S) (xs ys : List (Act S A)) → worked m k seat (xs ++ ys) ≡ worked m (worked m k seat xs) seat ys
  worked-append k xs ys = ap (state_from m k) (entries-append k xs ys) ∙ state_from-append m k (entries_from m k seat xs) (entries_from m (worked m k seat xs) seat ys)

module _ {S A R : Type 0} (m : Meaning S A R) (slots : ℕ) (seat : ℕ) where
  -- no act yet
  pub works_none : (k : Machine S) (store : Store S) → Represents slots store k → Works m slots k seat store []
  works_none k store r = record { legal = tt; represents = r }

  -- one act
  pub works_one : (k : Machine S) (store : Store S) (act : Act S A) → Allows m slots k seat act → Represents slots store (after_act m k seat act) → Works m slots k seat store (act ∷ [])
  works_one k store act allowed r = record { legal = (record { allowed = allowed; replied = refl }, tt); represents = r }

  -- and more
  pub works_more : (k : Machine S) (old new : Store S) (xs ys : List (Act S A)) → Works m slots k seat old xs → Works m slots (worked m k seat xs) seat new ys → Works m slots k seat new (xs ++ ys)
  works_more k old new xs ys p q = record {
    legal = rw (entries-append m seat k xs ys) (LegalFrom-append m slots k (entries_from m k seat xs) (entries_from m (worked m k seat xs) seat ys) p.legal q.legal);
    represents = rw (worked-append m seat k xs ys) q.represents;
  }

  module _ (k : Machine S) (id : ConnId) (way : Way) where
    -- an Unhold of what isn't held leaves each holder
    unheld_same : HoldsNone k id way → (key : Key) → (after_act m k seat (Unhold id way)).holder key ≡ k.holder key
    unheld_same none key = by_holder (k.holder key) (none key)
      where
        by_holder : (x : Option Found) → ¬ (x ≡ Some (record { id = id; way = way })) → given_up x (record { id = id; way = way }) ≡ x
        by_holder None n = refl
        by_holder (Some found) n = by_test (is_found found (record { id = id; way = way })) refl
          where
            by_test : (test : Bool) → is_found found (record { id = id; way = way }) ≡ test → cond test None (Some found) ≡ Some found
            by_test true e = absurd (n (ap (λ (f : Found). Some f) ((is_found-Decides found (record { id = id; way = way })).0 e)))
            by_test false e = refl

    pub gives_up : (store : Store S) (held : Bool) → stage_of k id ≡ Dead → Represents slots store (after_act m k seat (Unhold id way)) →
        (IsTrue held → HoldsSome k id way) → (held ≡ false → HoldsNone k id way) → GivesUp m slots k seat id way held store
    gives_up store true dead r some none = record {
      tells = (λ h. refl, some);
      works = works_one k store (Unhold id way) (record { killed = dead; held = some refl }) r;
    }
    gives_up store false dead r some none = record {
      tells = (λ h. absurd (none refl h.0 h.1), λ e. absurd (let no : false ≡ true = e in cc));
      works = works_none k store (record { sized = r.sized; placed = r.placed; held = λ key. r.held key ∙ unheld_same (none refl) key });
    }

    -- another way is left alone
    given_up_other : (other : Way) → other ≢ way → (x : Option Found) →
        (given_up x (record { id = id; way = way }) ≡ Some (record { id = id; way = other })) → x ≡ Some (record { id = id; way = other })
    given_up_other other ne None e = absurd cc
    given_up_other other ne (Some found) e = by_test (is_found found (record { id = id; way = way })) e
      where
        by_test : (test : Bool) → cond test None (Some found) ≡ Some (record { id = id; way = other }) → Some found ≡ Some (record { id = id; way = other })
        by_test true e = absurd cc
        by_test false e = e

    kept_other : (other : Way) → other ≢ way → (x : Option Found) → x ≡ Some (record { id = id; way = other }) → given_up x (record { id = id; way = way }) ≡ Some (record { id = id; way = other })
    kept_other other ne None e = absurd cc
    kept_other other ne (Some found) e = by_test (is_found found (record { id = id; way = way })) refl
      where
        by_test : (test : Bool) → is_found found (record { id = id; way = way }) ≡ test → cond test None (Some found) ≡ Some (record { id = id; way = other })
        by_test true t =
            let same : found ≡ record { id = id; way = way } = (is_found-Decides found (record { id = id; way = way })).0 t in
            let too : found ≡ record { id = id; way = other } = cc in
            absurd (ne (ap (λ (f : Found). f.way) (sym too ∙ same)))
        by_test false t = e

    pub others_held : (held : Bool) (other : Way) → other ≢ way → HoldsSome (worked m k seat (unhold_if held id way)) id other → HoldsSome k id other
    others_held true other ne h = (h.0, given_up_other other ne (k.holder h.0) h.1)
    others_held false other ne h = h

    pub others_kept : (held : Bool) (other : Way) → other ≢ way → HoldsSome k id other → HoldsSome (worked m k seat (unhold_if held id way)) id other
    others_kept true other ne h = (h.0, kept_other other ne (k.holder h.0) h.1)
    others_kept false other ne h = h

    pub dead_after : (held : Bool) → stage_of k id ≡ Dead → stage_of (worked m k seat (unhold_if held id way)) id ≡ Dead
    dead_after true dead = dead
    dead_after false dead = dead

-- the ways of three tests
abbrev pub by_way : Bool → Bool → Bool → Way → Bool
by_way f b p Forward = f
by_way f b p Backward = b
by_way f b p Port = p

three : {S A : Type 0} (id : ConnId) (f b p : Bool) →
    unhold_if {S = S} {A = A} f id Forward ++ (unhold_if b id Backward ++ unhold_if p id Port) ≡ map (λ way. Unhold id way) (filter (by_way f b p) all_ways)
three id true true true = refl
three id true true false = refl
three id true false true = refl
three id true false false = refl
three id false true true = refl
three id false true false = refl
three id false false true = refl
three id false false false = refl

module _ {S A R : Type 0} (m : Meaning S A R) (slots : ℕ) (seat : ℕ) (k : Machine S) (id : ConnId) (why : Why) where
  abbrev k1 : Machine S
  k1 = after_act m k seat (Kill id why)

  ways_apart : (way other : Way) → is_way way other ≡ false → way ≢ other
  ways_apart way other apart e = absurd (let same : is_way way way ≡ true = self way in let too : is_way way way ≡ false = rw (← e) at apart in cc)
    where
      self : (w : Way) → is_way w w ≡ true
      self Forward = refl
      self Backward = refl
      self Port = refl

  -- what may be killed is alive
  pub kill_alive : Allows m slots k seat (Kill id why) → IsAlive (stage_of k id)
  kill_alive = by_why why
    where
      due_alive : (now : ℕ) (stage : Stage S) → IsDue m now stage → IsAlive stage
      due_alive now Vacant h = h
      due_alive now (Building by) h = tt
      due_alive now (Live flow n) h = tt
      due_alive now Dead h = h

      by_why : (w : Why) → Allows m slots k seat (Kill id w) → IsAlive (stage_of k id)
      by_why Abandoned h = rw h tt
      by_why (Expired now) h = due_alive now (stage_of k id) h

  pub ends_connection : (s1 s2 s3 s4 : Store S) (f b p : Bool) → Allows m slots k seat (Kill id why) → Represents slots s1 k1 →
      (g1 : GivesUp m slots k1 seat id Forward f s2) →
      (g2 : GivesUp m slots (worked m k1 seat (unhold_if f id Forward)) seat id Backward b s3) →
      (g3 : GivesUp m slots (worked m (worked m k1 seat (unhold_if f id Forward)) seat (unhold_if b id Backward)) seat id Port p s4) →
      EndsConnection m slots k seat id why s4
  ends_connection s1 s2 s3 s4 f b p allowed r g1 g2 g3 =
      let k2 = worked m k1 seat (unhold_if f id Forward) in
      let k3 = worked m k2 seat (unhold_if b id Backward) in
      let rest = works_more m slots seat k1 s2 s4 (unhold_if f id Forward) (unhold_if b id Backward ++ unhold_if p id Port) g1.works
      (works_more m slots seat k2 s3 s4 (unhold_if b id Backward) (unhold_if p id Port) g2.works g3.works) in
      let all = works_more m slots seat k s1 s4 (Kill id why ∷ []) (unhold_if f id Forward ++
      (unhold_if b id Backward ++ unhold_if p id Port)) (works_one m slots seat k s1 (Kill id why) allowed r) rest in
      record {
        held = by_way f b p;
        holds = holds;
        works = subst (λ (acts : List (Act S A)). Works m slots k seat s4 (Kill id why ∷ acts)) (three id f b p) all;
      }
    where
      holds : HoldsThese k id (by_way f b p)
      holds Forward = g1.tells
      holds Backward = (
        λ h. g2.tells.0 (others_kept m slots seat k1 id Forward f Backward (ways_apart Backward Forward refl) h),
        λ e. others_held m slots seat k1 id Forward f Backward (ways_apart Backward Forward refl) (g2.tells.1 e),
      )
      holds Port = (
        λ h. g3.tells.0 (others_kept m slots seat _ id Backward b Port (ways_apart Port Backward refl) (others_kept m slots seat k1 id Forward f Port (ways_apart Port Forward refl) h)),
        λ e. others_held m slots seat k1 id Forward f Port (ways_apart Port Forward refl) (others_held m slots seat _ id Backward b Port (ways_apart Port Backward refl) (g3.tells.1 e)),
      )

-- the act ends this connection, or gives up one of its keys
pub data IsEndAct {S A : Type 0} (id : ConnId) (act : Act S A) : Type 0 where
  kills : (why : Why) → act ≡ Kill id why → IsEndAct id act
  unholds : (way : Way) → act ≡ Unhold id way → IsEndAct id act

abbrev pub AllEnd : {S A : Type 0} → ConnId → List (Act S A) → Type 0
AllEnd id [] = Unit {0}
AllEnd id (act ∷ acts) = IsEndAct id act × AllEnd id acts

all_unholds : (S A : Type 0) (id : ConnId) (ways : List Way) → AllEnd {S = S} {A = A} id (map (λ way. Unhold id way) ways)
all_unholds S A id [] = tt
all_unholds S A id (way ∷ ways) = (unholds way refl, all_unholds S A id ways)

pub all_end : (S A : Type 0) (id : ConnId) (why : Why) (held : Way → Bool) → AllEnd {S = S} {A = A} id (end_acts id why held)
all_end S A id why held = (kills why refl, all_unholds S A id (filter held all_ways))

end_free : {S A : Type 0} (id other : ConnId) (act : Act S A) → IsEndAct id act → ¬ (act ≡ Free other)
end_free id other act (kills why e) f = absurd cc
end_free id other act (unholds way e) f = absurd cc

end_start : {S A : Type 0} (id other : ConnId) (act : Act S A) → IsEndAct id act → (n : ℕ) (init : S) → ¬ (act ≡ Start other n init)
end_start id other act (kills why e) n init f = absurd cc
end_start id other act (unholds way e) n init f = absurd cc

end_hold : {S A : Type 0} (id : ConnId) (act : Act S A) → IsEndAct id act → (found : Found) (key : Key) → act ≡ Hold found.id key found.way → ⊥
end_hold id act (kills why e) found key f = absurd cc
end_hold id act (unholds way e) found key f = absurd cc

end_kill : {S A : Type 0} (id other : ConnId) (act : Act S A) → other ≢ id → IsEndAct id act → (why : Why) → ¬ (act ≡ Kill other why)
end_kill id other act ne (kills w e) why f = ne cc
end_kill id other act ne (unholds way e) why f = absurd cc

module _ {S A R : Type 0} (m : Meaning S A R) (slots : ℕ) (seat : ℕ) (id other : ConnId) where
  -- what ends one connection leaves the keys and the phases of others
  pub none_on : (acts : List (Act S A)) → AllEnd id acts → (k : Machine S) → LegalFrom m slots k (entries_from m k seat acts) →
      (way : Way) → HoldsNone k other way → HoldsNone (worked m k seat acts) other way
  none_on [] all k legal way h = h
  none_on (act ∷ acts) all k legal way h =
      none_on acts all.1 (after_act m k seat act) legal.1 way
      (none_next m slots k seat act legal.0.allowed other way (λ found key e. absurd (end_hold id act all.0 found key e)) h)

  pub claimed_on : (acts : List (Act S A)) → AllEnd id acts → (k : Machine S) → LegalFrom m slots k (entries_from m k seat acts) →
      IsClaimed (stage_of k other) → IsClaimed (stage_of (worked m k seat acts) other)
  claimed_on [] all k legal h = h
  claimed_on (act ∷ acts) all k legal h =
      claimed_on acts all.1 (after_act m k seat act) legal.1 (claimed_next m slots k seat act legal.0.allowed other (end_free id other act all.0) h)

  module _ (ne : other ≢ id) where
    pub built_on : (acts : List (Act S A)) → AllEnd id acts → (k : Machine S) → LegalFrom m slots k (entries_from m k seat acts) →
        stage_of k other ≡ Building seat → stage_of (worked m k seat acts) other ≡ Building seat
    built_on [] all k legal h = h
    built_on (act ∷ acts) all k legal h =
        built_on acts all.1 (after_act m k seat act) legal.1 (built_next m slots k seat act legal.0.allowed other (end_start id other act all.0) (end_kill id other act ne all.0) h)

    pub dead_back : (acts : List (Act S A)) → AllEnd id acts → (k : Machine S) → LegalFrom m slots k (entries_from m k seat acts) →
        stage_of (worked m k seat acts) other ≡ Dead → stage_of k other ≡ Dead
    dead_back [] all k legal h = h
    dead_back (act ∷ acts) all k legal h =
        let later = dead_back acts all.1 (after_act m k seat act) legal.1 h in
        rw stage_of-is (dead_move m slots k seat act legal.0.allowed other _ _ (moves m slots k seat other act legal.0.allowed)
        (end_kill id other act ne all.0) (sym (stage_of-is (after_act m k seat act) other) ∙ later))

frees_not : {S A : Type 0} (other : ConnId) (act : Act S A) → ¬ (act ≡ Free other) → is_free other act ≡ false
frees_not other (Free i) free = false_from_ne_true (is_id i other) (λ e. free (ap (λ j. Free j) ((is_id-Decides i other).0 e)))
frees_not other (Claim n slot) free = refl
frees_not other (Look n key) free = refl
frees_not other (Hold id key way) free = refl
frees_not other (Start id n init) free = refl
frees_not other (Step n id way arg) free = refl
frees_not other (Kill id why) free = refl
frees_not other (Unhold id way) free = refl

-- entries of such acts free nothing
pub frees_none : {S A R : Type 0} (m : Meaning S A R) (seat : ℕ) (id other : ConnId) (acts : List (Act S A)) → AllEnd id acts → (k : Machine S) → frees {R = R} other (entries_from m k seat acts) ≡ []
frees_none m seat id other [] all k = refl
frees_none m seat id other (act ∷ acts) all k =
    let none = frees_not other act (end_free id other act all.0) in
    rw none (frees_none m seat id other acts all.1 (after_act m k seat act))
