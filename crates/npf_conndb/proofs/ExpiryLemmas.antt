-- Slot after slot connections are killed.
use Rattle.std.proofs.Common.{◌≡◌, ◌⊎◌, ℕ, ◌+◌, Bool, true, false, List, [], ◌∷◌, ◌++◌, map, refl, sym, ap, ◌∙◌, subst, ⊎_elim, inl, inr, append-nil, append_assoc, length-append}
use Rattle.std.{specs.List.Contains, proofs.lemmas.List.map-append}
use Rattle.std.proofs.lemmas.{List.Elements.{Contains-append_cases, Contains-append_left, Contains-append_right, Contains-push}, Bool.Decides.not_from_Decides}
use Rattle.npf_types.specs.declared.key.Way.{Way}
use Rattle.npf_shelf.proofs.ListLemmas.{Contains-nil, Contains-cons_cases}
use Rattle.npf_core.specs.declared.{act.{Act.TheVariants.Kill, Why.TheVariants.Expired}, conn_id.ConnId.ConnId, entry.Entry.Entry}
use Rattle.npf_core.specs.{declared.{reply.Reply.TheVariants.Nothing, stage.Stage.{Stage, TheVariants.{Vacant, Building, Live, Dead}}}, Allowed.IsDue}
use Rattle.npf_core.specs.{History.{Legal, LegalFrom, state_of, state_from, IsPrefix}, Machine.{opening, stage_of, IsLive, HoldsNone}, Meaning.Meaning}
use Rattle.npf_core.{specs.NextState.is_id, proofs.{EqualityLemmas.is_id-Decides, HistoryLemmas.{LegalFrom-rest, state_from-append, IsPrefix-trans}}}
use Rattle.npf_connections.specs.{Adding.{Adds, AddsOwn}, Entries.{end_entries, entry_of}, Expiring.{Killed, IsOneOf, WasNotDue, expiry_entries}}
use Rattle.npf_connections.{specs.Pass.{Pass, IsPass}, proofs.AddLemmas.{adds_more, AddsLast, adds_last}}
use Rattle.npf_conndb.{specs.Expiries.{IsOver, ExpiresIn}, proofs.{KeyLemmas.{over_life, life_over, over_stays, over_none, dead_over}, KillLemmas.other_idle}}

-- the entries of more kills
pub expiry_more : {S A R : Type 0} (old mid : Pass (Entry S A R)) (time : ℕ) (xs ys : List Killed) → mid.number ≡ old.number →
    expiry_entries old time (xs ++ ys) ≡ expiry_entries old time xs ++ expiry_entries mid time ys
expiry_more old mid time [] [] number = refl
expiry_more {S} {A} {R} old mid time [] (y ∷ ys) number = ap_both
  where
    ap_both : expiry_entries old time (y ∷ ys) ≡ expiry_entries mid time (y ∷ ys)
    ap_both = by_number old.number mid.number (sym number) (y ∷ ys)
      where
        by_number : (n o : ℕ) → n ≡ o → (zs : List Killed) → expiry_entries (record old { number = n }) time zs ≡ expiry_entries (record mid { number = o }) time zs
        by_number n o same [] = refl
        by_number n o same (z ∷ zs) = λ i. end_entries (record old { number = same i }) z.id (Expired time) z.held ++ by_number n o same zs i
expiry_more old mid time (x ∷ xs) ys number =
    ap (λ es. end_entries old x.id (Expired time) x.held ++ es) (expiry_more old mid time xs ys number)
    ∙ sym (append_assoc (end_entries old x.id (Expired time) x.held) (expiry_entries old time xs) (expiry_entries mid time ys))

one_of_more : (xs ys : List Killed) (id : ConnId) → IsOneOf (xs ++ ys) id → IsOneOf xs id ⊎ IsOneOf ys id
one_of_more xs ys id c = Contains-append_cases (map (λ (x : Killed). x.id) xs) (map (λ (x : Killed). x.id) ys) id (subst (λ ids. Contains ids id) (map-append (λ (x : Killed). x.id) xs ys) c)

of_first : (xs ys : List Killed) (id : ConnId) → IsOneOf xs id → IsOneOf (xs ++ ys) id
of_first xs ys id c = subst (λ ids. Contains ids id) (sym (map-append (λ (x : Killed). x.id) xs ys)) (Contains-append_left (map (λ (x : Killed). x.id) xs) (map (λ (x : Killed). x.id) ys) id c)

of_second : (xs ys : List Killed) (id : ConnId) → IsOneOf ys id → IsOneOf (xs ++ ys) id
of_second xs ys id c = subst (λ ids. Contains ids id) (sym (map-append (λ (x : Killed). x.id) xs ys)) (Contains-append_right (map (λ (x : Killed). x.id) xs) (map (λ (x : Killed). x.id) ys) id c)

module _ {S A R : Type 0} (m : Meaning S A R) (time : ℕ) (old mid now : Pass (Entry S A R)) (number : mid.number ≡ old.number) (joined : mid.joined ≡ old.joined) where
  later : (id : ConnId) → IsPrefix mid.history now.history → WasNotDue m old.history mid.history id time → WasNotDue m old.history now.history id time
  later id on was = record { point = was.point; begins = was.begins; goes_on = IsPrefix-trans was.point mid.history now.history was.goes_on on; idle = was.idle }

  -- since before a call one was not due, where it was not due since in the middle of it
  pub earlier : (id : ConnId) → IsPrefix old.history mid.history → WasNotDue m mid.history now.history id time → WasNotDue m old.history now.history id time
  earlier id on was = record { point = was.point; begins = IsPrefix-trans old.history mid.history was.point on was.begins; goes_on = was.goes_on; idle = was.idle }

  -- what is killed in further slots comes behind what was
  pub expires_more : (Slots More : ℕ → Type 0) (count more : ℕ) → IsPass m now → now.slots ≡ mid.slots → ExpiresIn m time Slots count old mid →
      ExpiresIn m time More more mid now → ((id : ConnId) → More id.slot → IsLive (stage_of (state_of m old.history) id) →
      IsLive (stage_of (state_of m mid.history) id) ⊎ WasNotDue m old.history now.history id time) →
      ExpiresIn m time (λ slot. Slots slot ⊎ More slot) (count + more) old now
  expires_more Slots More count more pass slots first then lives = record {
    killed = first.killed ++ then.killed;
    adds = subst (Adds old now.history) (sym (expiry_more old mid time first.killed then.killed number))
        (adds_more old mid now.history (expiry_entries old time first.killed) (expiry_entries mid time then.killed) number joined first.adds then.adds);
    counted = sym (length-append first.killed then.killed ∙ (λ i. sym first.counted i + sym then.counted i));
    over = λ id c. ⊎_elim (λ was. goes_over id (first.over id was)) (λ is. then.over id is) (one_of_more first.killed then.killed id c);
    gave_up = λ id way c. ⊎_elim (λ was. goes_none id way (first.over id was) (first.gave_up id way was)) (λ is. then.gave_up id way is) (one_of_more first.killed then.killed id c);
    left = λ id there live. ⊎_elim
        (λ in_first. ⊎_elim (λ c. inl (of_first first.killed then.killed id c)) (λ was. inr (later id prefix was)) (first.left id in_first live))
        (λ in_more. ⊎_elim (λ still. ⊎_elim (λ c. inl (of_second first.killed then.killed id c)) (λ was. inr (earlier id begins was)) (then.left id in_more still))
        (λ was. inr was) (lives id in_more live))
        there;
  }
    where
      prefix : IsPrefix mid.history now.history
      prefix = record { rest = then.adds.rest; goes_on = then.adds.goes_on }

      begins : IsPrefix old.history mid.history
      begins = record { rest = first.adds.rest; goes_on = first.adds.goes_on }

      legal : LegalFrom m now.slots (state_of m mid.history) then.adds.rest
      legal = LegalFrom-rest m now.slots opening mid.history then.adds.rest (subst (Legal m now.slots) then.adds.goes_on pass.legal)

      state : state_of m now.history ≡ state_from m (state_of m mid.history) then.adds.rest
      state = ap (state_of m) then.adds.goes_on ∙ state_from-append m opening mid.history then.adds.rest

      goes_over : (id : ConnId) → IsOver (state_of m mid.history) id → IsOver (state_of m now.history) id
      goes_over id over = subst (λ k. IsOver k id) (sym state) (life_over _ id (over_stays m now.slots (state_of m mid.history) then.adds.rest id legal (over_life _ id over)))

      goes_none : (id : ConnId) (way : Way) → IsOver (state_of m mid.history) id → HoldsNone (state_of m mid.history) id way → HoldsNone (state_of m now.history) id way
      goes_none id way over none = subst (λ k. HoldsNone k id way) (sym state) (over_none m now.slots (state_of m mid.history) then.adds.rest id way legal (over_life _ id over) none)

-- what was expired in some slots was in fewer
pub expires_fewer : {S A R : Type 0} (m : Meaning S A R) (time : ℕ) (old now : Pass (Entry S A R)) (Slots Fewer : ℕ → Type 0) (count : ℕ) →
    ((slot : ℕ) → Fewer slot → Slots slot) → ExpiresIn m time Slots count old now → ExpiresIn m time Fewer count old now
expires_fewer m time old now Slots Fewer count fewer so = record {
  killed = so.killed;
  adds = so.adds;
  counted = so.counted;
  over = so.over;
  gave_up = so.gave_up;
  left = λ id there live. so.left id (fewer id.slot there) live;
}

-- a pass that adds nothing expires nothing, where none is due in some slots
pub expires_idle : {S A R : Type 0} (m : Meaning S A R) (time : ℕ) (Slots : ℕ → Type 0) (old now : Pass (Entry S A R)) → Adds old now.history [] →
    ((id : ConnId) → Slots id.slot → ¬ IsDue m time (stage_of (state_of m now.history) id)) →
    ExpiresIn m time Slots 0 old now
expires_idle m time Slots old now adds idle = record {
  killed = [];
  adds = adds;
  counted = refl;
  over = λ id c. absurd (Contains-nil id c);
  gave_up = λ id way c. absurd (Contains-nil id c);
  left = λ id there live. inr (record {
    point = now.history;
    begins = record { rest = adds.rest; goes_on = adds.goes_on };
    goes_on = record { rest = []; goes_on = sym (append-nil now.history) };
    idle = idle id there;
  });
}

-- and one that kills a connection and gives its keys up expires it; another of its slot wasn't due
pub expires_one : {S A R : Type 0} (m : Meaning S A R) (time slots : ℕ) (id : ConnId) (held : Way → Bool) (old killed now : Pass (Entry S A R)) →
    Legal m slots killed.history → AddsOwn old killed.history (entry_of old (Kill id (Expired time)) Nothing ∷ []) →
    AddsOwn old now.history (end_entries old id (Expired time) held) → IsPrefix killed.history now.history →
    stage_of (state_of m now.history) id ≡ Dead → ((way : Way) → HoldsNone (state_of m now.history) id way) →
    ExpiresIn m time (λ s. s ≡ id.slot) 1 old now
expires_one {S} {A} {R} m time slots id held old killed now legal kill ends on dead none = record {
  killed = record { id = id; held = held } ∷ [];
  adds = subst (Adds old now.history) (sym (append-nil (end_entries old id (Expired time) held))) ends.adds;
  counted = refl;
  over = λ other c. subst (IsOver (state_of m now.history)) (one other c) (life_over (state_of m now.history) id (dead_over (state_of m now.history) id dead));
  gave_up = λ other way c. subst (λ (x : ConnId). HoldsNone (state_of m now.history) x way) (one other c) (none way);
  left = λ other there live. by_test other there (is_id other id) refl;
}
  where
    last : AddsLast old killed.history (entry_of old (Kill id (Expired time)) Nothing)
    last = adds_last old killed.history (entry_of old (Kill id (Expired time)) Nothing) kill refl

    one : (other : ConnId) → Contains (id ∷ []) other → id ≡ other
    one other c = ⊎_elim (λ same. same) (λ no. absurd (Contains-nil other no)) (Contains-cons_cases id other [] c)

    self : Contains (id ∷ []) id
    self = Contains-push [] id

    by_test : (other : ConnId) → other.slot ≡ id.slot → (test : Bool) → is_id other id ≡ test → IsOneOf (record { id = id; held = held } ∷ []) other ⊎ WasNotDue m old.history now.history other time
    by_test other there true e = inl (subst (λ (x : ConnId). Contains (id ∷ []) x) (sym ((is_id-Decides other id).0 e)) self)
    by_test other there false e = inr (longer (other_idle m slots old killed.history id (Expired time) legal last time other there (not_from_Decides _ (is_id-Decides other id) e)))
      where
        longer : WasNotDue m old.history killed.history other time → WasNotDue m old.history now.history other time
        longer was = record { point = was.point; begins = was.begins; goes_on = IsPrefix-trans was.point killed.history now.history was.goes_on on; idle = was.idle }

-- who was Live before is Live still, or isn't due now
pub lives_or_idle : {S A R : Type 0} (m : Meaning S A R) (time : ℕ) (old mid now : Pass (Entry S A R)) (id : ConnId) → IsPrefix old.history mid.history →
    IsPrefix mid.history now.history → IsLive (stage_of (state_of m mid.history) id) ⊎ WasNotDue m old.history now.history id time
lives_or_idle {S} m time old mid now id begins goes = by_stage (stage_of (state_of m mid.history) id) refl
  where
    idle_at : (x : Stage S) → ¬ IsLive x → ¬ IsDue m time x
    idle_at Vacant dies due = due
    idle_at (Building seat) dies due = due
    idle_at (Live flow n) dies due = dies tt
    idle_at Dead dies due = due

    idle : ¬ IsLive (stage_of (state_of m mid.history) id) → WasNotDue m old.history now.history id time
    idle dies = record { point = mid.history; begins = begins; goes_on = goes; idle = idle_at (stage_of (state_of m mid.history) id) dies }

    by_stage : (x : Stage S) → stage_of (state_of m mid.history) id ≡ x → IsLive (stage_of (state_of m mid.history) id) ⊎ WasNotDue m old.history now.history id time
    by_stage Vacant e = inr (idle (λ live. subst IsLive e live))
    by_stage (Building seat) e = inr (idle (λ live. subst IsLive e live))
    by_stage (Live flow n) e = inl (subst IsLive (sym e) tt)
    by_stage Dead e = inr (idle (λ live. subst IsLive e live))
