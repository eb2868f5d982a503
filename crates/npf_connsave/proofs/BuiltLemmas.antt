-- The machine while connections are loaded into it, act by act.
use Rattle.std.proofs.Common.{◌≡◌, ◌+◌, ◌==◌, ℕ, Bool, true, false, cond, Option, Some, None, List, [], ◌∷◌, ◌++◌, Contains, length, refl, sym, ap, subst, ◌∙◌, true≢false, inl, inr, arith}
use Rattle.std.{specs.{Prelude.◌⊎◌, List.All}, proofs.lemmas.{Bool.Decides.Decides-eqb, List.length-append}}
use Rattle.std.proofs.lemmas.List.Elements.{All-push, All-weaker, Contains-append_left, Contains-append_right, Contains-push}
use Rattle.npf_types.specs.declared.key.{Key.Key, Way.{Way, TheVariants.{Forward, Backward, Port}}}
use Rattle.npf_shelf.proofs.BoolLemmas.{cond-same}
use Rattle.npf_core.specs.declared.{act.Act.TheVariants.{Claim, Hold, Start}, conn_id.ConnId.ConnId, found.Found.Found}
use Rattle.npf_core.specs.{declared.stage.Stage.TheVariants.{Vacant, Building, Live}, Copying.HoldsIf, HolderLaw.ClaimsWithNone}
use Rattle.npf_core.specs.{Machine.{Machine, stage_of, is_key, IsClaimed, IsLive, Holds, HoldsNone}, NextState.{after_act, holder_or, is_way}}
use Rattle.npf_core.{specs.Replies.claimed_id, proofs.{BuildingLemmas.claim_builds, EqualityLemmas.{is_key-Decides, is_way-Decides}, LifeLemmas.IsClaimed-last}}
use Rattle.npf_flow.specs.{declared.flow.Flow.Flow, Flows.flow_law}
use Rattle.npf_saved.specs.declared.saved.Saved.{Saved}
use Rattle.npf_connsave.{specs.Saves.{IsSavedAs, IsSavedOf, saved_flow}, proofs.CopyLemmas.{saved_live, slot_live, at_last}}

-- the key of a way
abbrev pub way_key : Saved → Way → Option Key
way_key saved Forward = Some saved.forward
way_key saved Port = saved.port
way_key saved Backward = saved.backward

-- one of these has the key that way
abbrev pub HasWay : List Saved → Way → Key → Type 0
HasWay done way key = (saved : Saved) × Contains done saved × (way_key saved way ≡ Some key)

-- these are loaded, and nothing else is claimed or held
pub record AreLoaded (k : Machine Flow) (done : List Saved) : Type 0 where
  pub each : All (IsSavedOf k) done
  pub held : (key : Key) (found : Found) → k.holder key ≡ Some found → HasWay done found.way key
  pub slots : List ℕ
  pub counted : length slots ≡ length done
  pub claimed : (slot : ℕ) → IsClaimed (k.slot slot).stage → Contains slots slot

-- one more is Building, and holds these keys
pub record AreBuilt (k : Machine Flow) (done : List Saved) (seat : ℕ) (id : ConnId) (keys : Way → Option Key) : Type 0 where
  pub each : All (IsSavedOf k) done
  pub held : (key : Key) (found : Found) → k.holder key ≡ Some found → HasWay done found.way key ⊎ ((found.id ≡ id) × (keys found.way ≡ Some key))
  pub holds : (way : Way) → HoldsIf k id way (keys way)
  pub built : stage_of k id ≡ Building seat
  pub slots : List ℕ
  pub counted : length slots ≡ length done + 1
  pub claimed : (slot : ℕ) → IsClaimed (k.slot slot).stage → Contains slots slot

abbrev pub no_keys : Way → Option Key
no_keys way = None

abbrev pub with_key : (Way → Option Key) → Way → Option Key → Way → Option Key
with_key keys way None other = keys other
with_key keys way (Some key) other = cond (is_way way other) (Some key) (keys other)

-- an identity whose keys and stage stay is saved as it was
stays : (k new : Machine Flow) (id : ConnId) (saved : Saved) → stage_of new id ≡ stage_of k id
    → ((way : Way) (key : Option Key) → HoldsIf k id way key → HoldsIf new id way key) → IsSavedAs k id saved → IsSavedAs new id saved
stays k new id saved stage keys is = record {
  flow = is.flow;
  steps = is.steps;
  live = stage ∙ is.live;
  same = is.same;
  forward = keys Forward (Some saved.forward) is.forward;
  port = keys Port saved.port is.port;
  backward = keys Backward saved.backward is.backward;
}

building_claimed : (k : Machine Flow) (id : ConnId) (seat : ℕ) → stage_of k id ≡ Building seat → IsClaimed (stage_of k id)
building_claimed k id seat is = subst IsClaimed (sym is) tt

not_same : (a b : ℕ) → ¬ (a ≡ b) → (a == b) ≡ false
not_same a b differs = by (a == b) refl where
  by : (v : Bool) → (a == b) ≡ v → v ≡ false
  by true is = absurd (differs ((Decides-eqb a b).0 is))
  by false is = refl

-- A claim.
module _ (k : Machine Flow) (done : List Saved) (seat slot : ℕ) (loaded : AreLoaded k done) (vacant : (k.slot slot).stage ≡ Vacant) where
  abbrev claimed_machine : Machine Flow
  claimed_machine = after_act flow_law k seat (Claim 0 slot)

  elsewhere : (id : ConnId) → IsLive (stage_of k id) → stage_of claimed_machine id ≡ stage_of k id
  elsewhere id live =
      let differs : ¬ (slot ≡ id.slot) = λ same. subst IsLive (ap (λ (s : ℕ). (k.slot s).stage) (sym same) ∙ vacant) (slot_live k id live) in
      let apart : (slot == id.slot) ≡ false = not_same slot id.slot differs in
      rw apart refl

  pub claimed_next : ClaimsWithNone k → (id : ConnId) → id ≡ claimed_id k slot → AreBuilt claimed_machine done seat id no_keys
  claimed_next none id is = record {
    each = All-weaker (IsSavedOf k) (IsSavedOf claimed_machine)
        (λ saved mine. (mine.0, stays k claimed_machine mine.0 saved (elsewhere mine.0 (saved_live k mine.0 saved mine.1)) (λ way key holds. same_keys mine.0 way key holds) mine.1)) done loaded.each;
    held = λ key found holds. inl (loaded.held key found holds);
    holds = λ way. subst (λ (i : ConnId). HoldsNone k i way) (sym is) (none slot way);
    built = ap (λ (i : ConnId). stage_of claimed_machine i) is ∙ claim_builds flow_law k seat 0 slot;
    slots = slot ∷ loaded.slots;
    counted = let counted = loaded.counted in omega (arith, counted);
    claimed = λ s there. by s (slot == s) refl there;
  } where
    same_keys : (i : ConnId) (way : Way) (key : Option Key) → HoldsIf k i way key → HoldsIf claimed_machine i way key
    same_keys i way None holds = holds
    same_keys i way (Some key) holds = holds

    by : (s : ℕ) (b : Bool) → (slot == s) ≡ b → IsClaimed (cond b (record { inc = (k.slot s).inc + 1; stage = Building seat }) (k.slot s)).stage → Contains (slot ∷ loaded.slots) s
    by s true same there = (0, omega arith, (Decides-eqb slot s).0 same)
    by s false same there = Contains-append_right (slot ∷ []) loaded.slots s (loaded.claimed s there)

-- What a hold of a key without a holder makes of each key's holder.
given_before : (b : Bool) (old : Option Found) (new found : Found) → old ≡ Some found → cond b (holder_or old new) old ≡ Some found
given_before b old new found is = ap (λ o. cond b (holder_or o new) o) is ∙ cond-same b (Some found)

given_now : (old : Option Found) (new : Found) → old ≡ None → holder_or old new ≡ Some new
given_now old new is = ap (λ o. holder_or o new) is

pub given_by : (b : Bool) (old : Option Found) (new found : Found) → cond b (holder_or old new) old ≡ Some found → (old ≡ Some found) ⊎ ((b ≡ true) × (new ≡ found))
given_by true None new found is = inr (refl, cc)
given_by true (Some holder) new found is = inl is
given_by false old new found is = inl is

-- A hold.
module _ (k : Machine Flow) (done : List Saved) (seat : ℕ) (id : ConnId) (keys : Way → Option Key) (loaded : AreBuilt k done seat id keys) (key : Key) (way : Way)
    (free : k.holder key ≡ None) (none : keys way ≡ None) where
  abbrev held_machine : Machine Flow
  held_machine = after_act flow_law k seat (Hold id key way)

  abbrev holding : Found
  holding = record { id = id; way = way }

  now : (other : Key) (found : Found) → held_machine.holder other ≡ Some found → (k.holder other ≡ Some found) ⊎ ((key ≡ other) × (holding ≡ found))
  now other found is = elim (given_by (is_key key other) (k.holder other) holding found is) [
    | inl old ↦ inl old
    | inr new ↦ inr ((is_key-Decides key other).0 new.0, new.1)
  ]

  before : (other : Key) (found : Found) → k.holder other ≡ Some found → held_machine.holder other ≡ Some found
  before other found is = given_before (is_key key other) (k.holder other) holding found is

  holds_it : Holds held_machine id way key
  holds_it = let same : is_key key key ≡ true = (is_key-Decides key key).1 refl in rw same (given_now (k.holder key) holding free)

  other_keys : (i : ConnId) (at : Way) (given : Option Key) → ((id ≡ i) × (way ≡ at) → ⊥) → HoldsIf k i at given → HoldsIf held_machine i at given
  other_keys i at (Some other) differs holds = before other (record { id = i; way = at }) holds
  other_keys i at None differs holds = λ other is. elim (now other (record { id = i; way = at }) is) [
    | inl old ↦ holds other old
    | inr new ↦ differs (ap (λ (f : Found). f.id) new.1, ap (λ (f : Found). f.way) new.1)
  ]

  not_live : (i : ConnId) → IsLive (stage_of k i) → ¬ (id ≡ i)
  not_live i live same = subst IsLive (ap (λ (j : ConnId). stage_of k j) (sym same) ∙ loaded.built) live

  keys_hold : (at : Way) → HoldsIf held_machine id at (with_key keys way (Some key) at)
  keys_hold at = by (is_way way at) refl where
    by : (b : Bool) → is_way way at ≡ b → HoldsIf held_machine id at (cond b (Some key) (keys at))
    by true same = subst (λ (w : Way). Holds held_machine id w key) ((is_way-Decides way at).0 same) holds_it
    by false other = other_keys id at (keys at) (λ same. true≢false (sym ((is_way-Decides way at).1 same.1) ∙ other)) (loaded.holds at)

  keys_told : (other : Key) (found : Found) → held_machine.holder other ≡ Some found
      → HasWay done found.way other ⊎ ((found.id ≡ id) × (with_key keys way (Some key) found.way ≡ Some other))
  keys_told other found is = elim (now other found is) [
    | inl old ↦ elim (loaded.held other found old) [
      | inl one ↦ inl one
      | inr mine ↦ inr (mine.0, by (is_way way found.way) refl mine.1)
    ]
    | inr new ↦
        let here : is_way way found.way ≡ true = (is_way-Decides way found.way).1 (ap (λ (f : Found). f.way) new.1) in
        inr (sym (ap (λ (f : Found). f.id) new.1), rw here (ap Some new.0))
  ] where
    by : (b : Bool) → is_way way found.way ≡ b → keys found.way ≡ Some other → cond b (Some key) (keys found.way) ≡ Some other
    by true same mine = let none_there : keys found.way ≡ None = ap keys (sym ((is_way-Decides way found.way).0 same)) ∙ none in absurd (let e : None ≡ Some other = sym none_there ∙ mine in cc)
    by false differs mine = mine

  pub held_next : AreBuilt held_machine done seat id (with_key keys way (Some key))
  held_next = record {
    each = All-weaker (IsSavedOf k) (IsSavedOf held_machine)
        (λ saved mine. (
          mine.0,
          stays k held_machine mine.0 saved refl
              (λ at given holds. other_keys mine.0 at given (λ same. not_live mine.0 (saved_live k mine.0 saved mine.1) same.0) holds) mine.1,
        )) done loaded.each;
    held = keys_told;
    holds = keys_hold;
    built = loaded.built;
    slots = loaded.slots;
    counted = loaded.counted;
    claimed = loaded.claimed;
  }

-- A start.
module _ (k : Machine Flow) (done : List Saved) (seat : ℕ) (id : ConnId) (saved : Saved) (keys : Way → Option Key) (loaded : AreBuilt k done seat id keys)
    (same : (way : Way) → keys way ≡ way_key saved way) (opener : saved.flow.opener ≡ 0) where
  abbrev started_machine : Machine Flow
  started_machine = after_act flow_law k seat (Start id 0 saved.flow)

  last : (k.slot id.slot).inc ≡ id.inc
  last = IsClaimed-last (k.slot id.slot) id.inc (building_claimed k id seat loaded.built)

  slot_building : (k.slot id.slot).stage ≡ Building seat
  slot_building = sym (at_last (k.slot id.slot) id.inc last) ∙ loaded.built

  other_slot : (i : ConnId) → IsLive (stage_of k i) → ¬ (id.slot ≡ i.slot)
  other_slot i live here = subst IsLive (ap (λ (s : ℕ). (k.slot s).stage) (sym here) ∙ slot_building) (slot_live k i live)

  stays_there : (i : ConnId) → IsLive (stage_of k i) → stage_of started_machine i ≡ stage_of k i
  stays_there i live = let apart : (id.slot == i.slot) ≡ false = not_same id.slot i.slot (other_slot i live) in rw apart refl

  starts : stage_of started_machine id ≡ Live saved.flow 1
  starts =
      let here : (id.slot == id.slot) ≡ true = (Decides-eqb id.slot id.slot).1 refl in
      rw here (at_last (record (k.slot id.slot) { stage = Live saved.flow 1 }) id.inc last)

  unopened : (flow : Flow) → flow.opener ≡ 0 → flow ≡ saved_flow flow
  unopened flow none = λ i. record flow { opener = none i }

  keys_stay : (i : ConnId) (way : Way) (key : Option Key) → HoldsIf k i way key → HoldsIf started_machine i way key
  keys_stay i way None holds = holds
  keys_stay i way (Some key) holds = holds

  its_key : (way : Way) → HoldsIf started_machine id way (way_key saved way)
  its_key way = keys_stay id way (way_key saved way) (subst (HoldsIf k id way) (same way) (loaded.holds way))

  pub started_next : AreLoaded started_machine (done ++ saved ∷ [])
  started_next = record {
    each = All-push (IsSavedOf started_machine) done saved
        (All-weaker (IsSavedOf k) (IsSavedOf started_machine)
        (λ one mine. (mine.0, stays k started_machine mine.0 one (stays_there mine.0 (saved_live k mine.0 one mine.1)) (keys_stay mine.0) mine.1)) done loaded.each) (
          id,
          record {
            flow = saved.flow;
            steps = 1;
            live = starts;
            same = unopened saved.flow opener;
            forward = its_key Forward;
            port = its_key Port;
            backward = its_key Backward;
          },
        );
    held = λ key found is. elim (loaded.held key found is) [
      | inl one ↦ inl_way key found one
      | inr mine ↦ (saved, Contains-push done saved, sym (same found.way) ∙ mine.1)
    ];
    slots = loaded.slots;
    counted = let long = length-append done (saved ∷ []) in let counted = loaded.counted in omega arith;
    claimed = λ s there. by s (id.slot == s) refl there;
  } where
    inl_way : (key : Key) (found : Found) → HasWay done found.way key → HasWay (done ++ saved ∷ []) found.way key
    inl_way key found one = (one.0, Contains-append_left done (saved ∷ []) one.0 one.1, one.2)

    by : (s : ℕ) (b : Bool) → (id.slot == s) ≡ b → IsClaimed (cond b (record (k.slot s) { stage = Live saved.flow 1 }) (k.slot s)).stage → Contains loaded.slots s
    by s true here there =
        let at : id.slot ≡ s = (Decides-eqb id.slot s).0 here in
        loaded.claimed s (subst IsClaimed (sym (ap (λ (n : ℕ). (k.slot n).stage) (sym at) ∙ slot_building)) tt)
    by s false other there = loaded.claimed s there
