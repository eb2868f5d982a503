-- Connections by the numbers of their slots, as one of them changes.
use Rattle.std.proofs.Common.{◌≡◌, ◌≢◌, ℕ, zero, suc, [], ◌∷◌, ◌++◌, get_or, ◌+◌, ◌-◌, ◌^◌, ◌<◌, ◌≤◌, ◌==◌, Bool, true, false, cond, List, length, set, arith, refl, sym, ap, subst, ◌∙◌, ⊎_elim}
use Rattle.std.proofs.lemmas.{Bool.{cases_eq, cases_lt, Decides.Decides-eqb}, List.{get_or-set_same, get_or-set_other}}
use Rattle.std.proofs.lemmas.Option.{slice_get_past, slice_get_read, unwrap_or-slice_get}
use Rattle.npf_core.specs.declared.conn_id.ConnId.{ConnId}
use Rattle.npf_oneturn_store.specs.declared.{connection.Connection.Connection, phase.SlotPhase.{SlotPhase, TheVariants.{Vacant, Live, Dead}}}
use Rattle.npf_oneturn_store.specs.{Connection.{connection_in, phase_at, phase_among, AreFit}, Store.IsLivePhase}

abbrev never : {S : Type 0} → Connection S
never = record { inc = 0; phase = Vacant }

-- a slot that is written as never claimed is as it was
pub written_same : {S : Type 0} (xs : List (Connection S)) (s : ℕ) → connection_in (xs ++ never ∷ []) s ≡ connection_in xs s
written_same [] zero = refl
written_same [] (suc s) = refl
written_same (x ∷ xs) zero = refl
written_same (x ∷ xs) (suc s) = written_same xs s

module _ {S : Type 0} (xs : List (Connection S)) where
  -- past the list no connection was claimed yet
  pub connection_past : (s : ℕ) → length xs ≤ s → connection_in xs s ≡ record { inc = 0; phase = Vacant }
  connection_past s h = rw (slice_get_past xs s h) refl

  pub set_there : (s : ℕ) (x : Connection S) → s < length xs → connection_in (set xs s x) s ≡ x
  set_there s x within = unwrap_or-slice_get (set xs s x) s never ∙ get_or-set_same xs s x never within

  pub set_elsewhere : (s r : ℕ) (x : Connection S) → r ≢ s → connection_in (set xs s x) r ≡ connection_in xs r
  set_elsewhere s r x ne = unwrap_or-slice_get (set xs s x) r never ∙ (get_or-set_other xs s r x never ne ∙ sym (unwrap_or-slice_get xs r never))

  -- what was read of a slot
  pub slot_read : (s : ℕ) (x : Connection S) → s < length xs → x ≡ get_or xs s x → connection_in xs s ≡ x
  slot_read s x within read = rw (slice_get_read xs (length xs) s x refl within read) refl

  -- an identity of a slot that isn't claimed isn't
  pub vacant_phase : (id : ConnId) → (connection_in xs id.slot).phase ≡ Vacant → phase_among xs id ≡ Vacant
  vacant_phase id vacant = by_inc ((connection_in xs id.slot).inc == id.inc)
    where
      by_inc : (same : Bool) → cond same (connection_in xs id.slot).phase Vacant ≡ Vacant
      by_inc true = vacant
      by_inc false = refl

  -- a claimed identity has a slot, and the slot's incarnation
  pub claimed_within : (id : ConnId) → phase_among xs id ≢ Vacant → id.slot < length xs
  claimed_within id claimed = ⊎_elim
      (λ (below : id.slot < length xs). below)
      (λ (past : length xs ≤ id.slot). absurd (claimed (vacant_phase id (ap (λ (x : Connection S). x.phase) (connection_past id.slot past)))))
      (cases_lt id.slot (length xs))

  pub claimed_inc : (id : ConnId) → phase_among xs id ≢ Vacant → (connection_in xs id.slot).inc ≡ id.inc
  claimed_inc id claimed = by_inc ((connection_in xs id.slot).inc == id.inc) refl claimed
    where
      by_inc : (same : Bool) → ((connection_in xs id.slot).inc == id.inc) ≡ same → cond same (connection_in xs id.slot).phase Vacant ≢ Vacant → (connection_in xs id.slot).inc ≡ id.inc
      by_inc true e ne = (Decides-eqb (connection_in xs id.slot).inc id.inc).0 e
      by_inc false e ne = absurd (ne refl)

  -- the phase of an identity that a slot was given
  pub given_phase : (x : Connection S) (id : ConnId) → id.slot < length xs → x.inc ≡ id.inc → phase_among (set xs id.slot x) id ≡ x.phase
  given_phase x id within e =
      let same : (x.inc == id.inc) ≡ true = (Decides-eqb x.inc id.inc).1 e in
      ap (λ (y : Connection S). phase_at y id.inc) (set_there id.slot x within) ∙ rw same refl

  -- a Dead one is claimed
  pub dead_claimed : (id : ConnId) → phase_among xs id ≡ Dead → phase_among xs id ≢ Vacant
  dead_claimed id dead vacant = let e : ◌≡◌ {A = SlotPhase S} Dead Vacant = sym dead ∙ vacant in absurd cc

  -- a Live one is claimed, and its phase is its slot's
  pub live_claimed : (id : ConnId) → IsLivePhase (phase_among xs id) → phase_among xs id ≢ Vacant
  live_claimed id live vacant = subst IsLivePhase vacant live

  pub live_phase : (id : ConnId) → IsLivePhase (phase_among xs id) → phase_among xs id ≡ (connection_in xs id.slot).phase
  live_phase id live = by_inc ((connection_in xs id.slot).inc == id.inc) live
    where
      by_inc : (same : Bool) → IsLivePhase (cond same (connection_in xs id.slot).phase Vacant) → cond same (connection_in xs id.slot).phase Vacant ≡ (connection_in xs id.slot).phase
      by_inc true here = refl
      by_inc false here = absurd here

  -- what is Live is claimed
  pub live_stays : (x : Connection S) (flow : S) (steps : ℕ) → x.phase ≡ Live flow steps → x.phase ≢ Vacant
  live_stays x flow steps is vacant = let e : ◌≡◌ {A = SlotPhase S} (Live flow steps) Vacant = sym is ∙ vacant in absurd cc

  pub given_inc : (x : Connection S) (phase : SlotPhase S) (inc other : ℕ) → x ≡ record { inc = inc; phase = phase } → inc ≡ other → x ≡ record { inc = other; phase = phase }
  given_inc x phase inc other is same = is ∙ λ i. record { inc = same i; phase = phase }

  -- two claimed identities of one slot are one
  pub one_claimed : (id other : ConnId) → phase_among xs id ≢ Vacant → phase_among xs other ≢ Vacant → other.slot ≡ id.slot → other ≡ id
  one_claimed id other claimed too e =
      let incs : other.inc ≡ id.inc = sym (claimed_inc other too) ∙ (ap (λ s. (connection_in xs s).inc) e ∙ claimed_inc id claimed) in
      λ i. record { slot = e i; inc = incs i }

  -- the lowest that isn't claimed is written, or next to be
  pub lowest_within : (s : ℕ) → ((r : ℕ) → r < s → (connection_in xs r).phase ≢ Vacant) → s ≤ length xs
  lowest_within s lower = ⊎_elim
      (λ (past : length xs < s). absurd (lower (length xs) past (ap (λ (x : Connection S). x.phase) (connection_past (length xs) (omega arith)))))
      (λ (below : s ≤ length xs). below)
      (cases_lt (length xs) s)

  -- what stays fit as a slot changes: a claimed one that stays so, one that is claimed, one that is freed
  pub fit_same : (first : ℕ) (ys : List (Connection S)) → AreFit first xs → ((r : ℕ) → connection_in ys r ≡ connection_in xs r) → AreFit first ys
  fit_same first ys fit same = record { claimed = λ r. rw (same r) (fit.claimed r); further = λ r. rw (same r) (fit.further r) }

  pub fit_put : (first s : ℕ) (x : Connection S) → AreFit first xs → s < length xs → x.phase ≢ Vacant → AreFit first (set xs s x)
  fit_put first s x fit within claimed = record {
    claimed = λ r below. ⊎_elim
        (λ (e : r ≡ s). λ vacant. claimed (sym (ap (λ (y : Connection S). y.phase) (ap (connection_in (set xs s x)) e ∙ set_there s x within)) ∙ vacant))
        (λ (ne : r ≢ s). λ vacant. fit.claimed r below (sym (ap (λ (y : Connection S). y.phase) (set_elsewhere s r x ne)) ∙ vacant))
        (cases_eq r s);
    further = λ r vacant. ⊎_elim
        (λ (e : r ≡ s). absurd (claimed (sym (ap (λ (y : Connection S). y.phase) (ap (connection_in (set xs s x)) e ∙ set_there s x within)) ∙ vacant)))
        (λ (ne : r ≢ s). rw (set_elsewhere s r x ne) (fit.further r (sym (ap (λ (y : Connection S). y.phase) (set_elsewhere s r x ne)) ∙ vacant)))
        (cases_eq r s);
  }

  pub fit_claimed : (first s : ℕ) (x : Connection S) → AreFit first xs → s < length xs → x.phase ≢ Vacant → ((r : ℕ) → r < s → (connection_in xs r).phase ≢ Vacant) → AreFit (s + 1) (set xs s x)
  fit_claimed first s x fit within claimed lower = record {
    claimed = λ r below. ⊎_elim
        (λ (e : r ≡ s). λ vacant. claimed (sym (ap (λ (y : Connection S). y.phase) (ap (connection_in (set xs s x)) e ∙ set_there s x within)) ∙ vacant))
        (λ (ne : r ≢ s). λ vacant. lower r (omega arith) (sym (ap (λ (y : Connection S). y.phase) (set_elsewhere s r x ne)) ∙ vacant))
        (cases_eq r s);
    further = (fit_put first s x fit within claimed).further;
  }

  pub fit_freed : (first lower s : ℕ) (x : Connection S) → AreFit first xs → s < length xs → lower ≤ first → lower ≤ s → x.inc < 2 ^ 64 - 1 → AreFit lower (set xs s x)
  fit_freed first lower s x fit within low under further = record {
    claimed = λ r below vacant. ⊎_elim
        (λ (e : r ≡ s). omega arith)
        (λ (ne : r ≢ s). fit.claimed r (omega arith) (sym (ap (λ (y : Connection S). y.phase) (set_elsewhere s r x ne)) ∙ vacant))
        (cases_eq r s);
    further = λ r vacant. ⊎_elim
        (λ (e : r ≡ s). rw (e, set_there s x within) further)
        (λ (ne : r ≢ s). rw (set_elsewhere s r x ne) (fit.further r (sym (ap (λ (y : Connection S). y.phase) (set_elsewhere s r x ne)) ∙ vacant)))
        (cases_eq r s);
  }
