-- A call enters, expires what is due slot by slot, and leaves.
use Rattle.std.proofs.Common.{◌≡◌, ◌⊎◌, ℕ, ◌+◌, ◌≤◌, ◌<◌, Bool, true, false, eqb, List, [], refl, sym, ap, ◌∙◌, subst, ⊎_elim, inl, inr, arith}
use Rattle.std.proofs.lemmas.Bool.{cases_lt, Decides.{Decides-eqb, not_from_Decides}}
use Rattle.atomic_table.specs.Table.{Me}
use Rattle.npf_core.specs.declared.{conn_id.ConnId.ConnId, entry.Entry.Entry, stage.Stage.{Stage, TheVariants.{Vacant, Building, Live, Dead}}}
use Rattle.npf_core.{specs.{History.state_of, Machine.{stage_of, IsClaimed, IsLive}, Meaning.Meaning}, proofs.SlotLemmas.slot_exists}
use Rattle.npf_connections.{specs.{Adding.Adds, Expiring.{Expires, WasNotDue, expiry_entries}, Pass.{Pass, IsPass}, Stay.GoesOn}, proofs.AddLemmas.adds_more}
use Rattle.npf_seats.proofs.PrefixLemmas.{none_listed}
use Rattle.npf_cells_moves.specs.Kinds.{unpinned}
use Rattle.npf_cells_rule.specs.{declared.view.CellView.CellView, Passes.{IsProtected, cell_pass, is_pinned}, Views.with_epochs}
use Rattle.npf_epoch.specs.Stays.{HasEntered}
use Rattle.npf_conndb.specs.{Between.{IsBetweenCalls, StaysBetween}, Expiries.ExpiresIn}
use Rattle.npf_conndb.proofs.{ExpiryLemmas.{expiry_more, expires_more, expires_fewer, lives_or_idle}, PassLemmas.{goes_on, goes_further, adds_nothing}}
use Rattle.npf_conndb.proofs.StayLemmas.{entered_shows, entered_later, left_shows, left_pass, left_between}

-- who did nothing is between calls as it was, and expired nothing in no slot
pub stays_here : {S A R : Type 0} (m : Meaning S A R) (v : CellView S A R) → IsPass m (cell_pass v) → IsBetweenCalls m v → StaysBetween m v v
stays_here m v legal between = record {
  goes = goes_on (cell_pass v) (cell_pass v) v.seats.history v.epochs.greatest refl (omega arith);
  between = between;
  legal = legal;
  pin = refl;
}

pub expires_none : {S A R : Type 0} (m : Meaning S A R) (time : ℕ) (old : Pass (Entry S A R)) → ExpiresIn m time (λ s. s < 0) 0 old old
expires_none m time old = record {
  killed = [];
  adds = adds_nothing old old.history refl;
  counted = refl;
  over = λ id c. absurd (none_listed id c);
  gave_up = λ id way c. absurd (none_listed id c);
  left = λ id there live. absurd (omega (arith, there));
}

-- a slot is below the next one or is this one
below_next : (slot s : ℕ) → s < slot + 1 → (s < slot) ⊎ (s ≡ slot)
below_next slot s below = by_test (eqb s slot) refl
  where
    by_test : (t : Bool) → eqb s slot ≡ t → (s < slot) ⊎ (s ≡ slot)
    by_test true e = inr ((Decides-eqb s slot).0 e)
    by_test false e = let apart = not_from_Decides _ (Decides-eqb s slot) e in inl (omega (arith, below, apart))

-- one slot more
module _ {S A R : Type 0} (m : Meaning S A R) (time slot count more : ℕ) (old mid now : CellView S A R) (first : StaysBetween m old mid) (then : StaysBetween m mid now) where
  pub stays_more : StaysBetween m old now
  stays_more = record {
    goes = goes_further (cell_pass old) (cell_pass mid) (cell_pass now) first.goes then.goes;
    between = then.between;
    legal = then.legal;
    pin = then.pin ∙ first.pin;
  }

  expires_then : (More Both : ℕ → Type 0) → ((s : ℕ) → Both s → (s < slot) ⊎ More s) →
      ExpiresIn m time (λ s. s < slot) count (cell_pass old) (cell_pass mid) → ExpiresIn m time More more (cell_pass mid) (cell_pass now) →
      ExpiresIn m time Both (count + more) (cell_pass old) (cell_pass now)
  expires_then More Both either below here = expires_fewer m time (cell_pass old) (cell_pass now) (λ s. (s < slot) ⊎ More s) Both (count + more) either
      (expires_more m time (cell_pass old) (cell_pass mid) (cell_pass now) (ap (λ (p : Pass (Entry S A R)). p.number) first.goes.view)
      (ap (λ (p : Pass (Entry S A R)). p.joined) first.goes.view) (λ s. s < slot) More count more then.legal
      (ap (λ (p : Pass (Entry S A R)). p.slots) then.goes.view) below here
      (λ id there live. lives_or_idle m time (cell_pass old) (cell_pass mid) (cell_pass now) id (record {
        rest = below.adds.rest;
        goes_on = below.adds.goes_on;
      }) (record { rest = here.adds.rest; goes_on = here.adds.goes_on })))

  pub expires_next : ExpiresIn m time (λ s. s < slot) count (cell_pass old) (cell_pass mid) → ExpiresIn m time (λ s. s ≡ slot) more (cell_pass mid) (cell_pass now) →
      ExpiresIn m time (λ s. s < slot + 1) (count + more) (cell_pass old) (cell_pass now)
  expires_next below here = expires_then (λ s. s ≡ slot) (λ s. s < slot + 1) (below_next slot) below here

  -- more slots, of which none was expired
  pub expires_past : (end : ℕ) → more ≡ 0 → ExpiresIn m time (λ s. s < slot) count (cell_pass old) (cell_pass mid) →
      ExpiresIn m time (λ s. (slot ≤ s) × (s < end)) more (cell_pass mid) (cell_pass now) → ExpiresIn m time (λ s. s < end) count (cell_pass old) (cell_pass now)
  expires_past end none below here = subst (λ n. ExpiresIn m time (λ s. s < end) n (cell_pass old) (cell_pass now)) (omega (arith, none))
      (expires_then (λ s. (slot ≤ s) × (s < end)) (λ s. s < end) (λ s under. ⊎_elim (λ (in_first : s < slot). inl in_first) (λ (past : slot ≤ s). inr (past, under)) (cases_lt s slot)) below here)

-- what is Live lies in a slot of the table
live_claimed : {S : Type 0} (x : Stage S) → IsLive x → IsClaimed x
live_claimed Vacant live = absurd live
live_claimed (Building seat) live = absurd live
live_claimed (Live flow n) live = tt
live_claimed Dead live = absurd live

pub live_exists : {S A R : Type 0} (m : Meaning S A R) (pass : Pass (Entry S A R)) (slots : ℕ) (id : ConnId) →
    pass.slots ≡ slots → IsPass m pass → IsLive (stage_of (state_of m pass.history) id) → id.slot < slots
live_exists m pass slots id sized is live = subst (λ n. id.slot < n) sized (slot_exists m pass.slots pass.history id is.legal (live_claimed (stage_of (state_of m pass.history) id) live))

-- the whole call
module _ {S A R F : Type 0} (m : Meaning S A R) (old inside after now : Me F (CellView S A R)) (pass : IsPass m (cell_pass old.0))
    (out : (cell_pass old.0).entered ≡ false) (same : inside ≡ with_epochs old inside.0.epochs) (protected : IsProtected inside.0.epochs.pin)
    (entered : HasEntered old.0.epochs inside.0.epochs) (stays : StaysBetween m inside.0 after.0) (next : now ≡ unpinned after) where
  was : inside.0.seats.history ≡ old.0.seats.history
  was = ap (λ (y : Me F (CellView S A R)). y.0.seats.history) same

  is_history : now.0.seats.history ≡ after.0.seats.history
  is_history = ap (λ (y : Me F (CellView S A R)). y.0.seats.history) next

  visit_shows : cell_pass now.0 ≡ record (cell_pass old.0) { history = after.0.seats.history; epoch = after.0.epochs.greatest }
  visit_shows = left_shows m after now next ∙ (ap leaving (stays.goes.view ∙ ap going (entered_shows m old inside same protected entered)) ∙ (λ i. as_before (sym out i) (sym (pass.unanswered out) i)))
    where
      leaving : Pass (Entry S A R) → Pass (Entry S A R)
      leaving p = record p { entered = false; answered = [] }

      going : Pass (Entry S A R) → Pass (Entry S A R)
      going p = record p { history = after.0.seats.history; epoch = after.0.epochs.greatest }

      as_before : Bool → List ConnId → Pass (Entry S A R)
      as_before e ids = record (cell_pass old.0) { entered = e; answered = ids; history = after.0.seats.history; epoch = after.0.epochs.greatest }

  pub visit_goes : GoesOn (cell_pass old.0) (cell_pass now.0)
  visit_goes = goes_on (cell_pass old.0) (cell_pass now.0) after.0.seats.history after.0.epochs.greatest visit_shows (let first =
      entered_later m old inside same protected entered in let then = stays.goes.epoch in omega (arith, first, then))

  builds : after.0.pools.builds ≡ []
  builds = ap (λ (p : Pass (Entry S A R)). p.builds) stays.goes.view ∙ (ap (λ (y : Me F (CellView S A R)). y.0.pools.builds) same ∙ pass.idle out)

  pub visit_pass : IsPass m (cell_pass now.0)
  visit_pass = left_pass m after now next stays.legal builds

  pub visit_between : IsBetweenCalls m now.0
  visit_between = left_between m after now next stays.between

  pub visit_out : (cell_pass now.0).entered ≡ false
  visit_out = ap (λ (y : Me F (CellView S A R)). is_pinned y.0.epochs.pin) next

  pub visit_expires : (time slots count : ℕ) → old.0.seats.about ≡ slots → ExpiresIn m time (λ s. s < slots) count (cell_pass inside.0) (cell_pass after.0) →
      Expires m (cell_pass old.0) now.0.seats.history time count
  visit_expires time slots count sized so = subst (λ h. Expires m (cell_pass old.0) h time count) (sym is_history) (record {
    killed = so.killed;
    adds = subst (Adds (cell_pass old.0) after.0.seats.history) (sym (expiry_more (cell_pass old.0) (cell_pass inside.0) time [] so.killed number))
        (adds_more (cell_pass old.0) (cell_pass inside.0) after.0.seats.history [] (expiry_entries (cell_pass inside.0) time so.killed) number joined
        (adds_nothing (cell_pass old.0) inside.0.seats.history was) so.adds);
    counted = so.counted;
    gave_up = so.gave_up;
    left = λ id live. ⊎_elim (λ c. inl c) (λ w. inr (subst (λ h. WasNotDue m h after.0.seats.history id time) was w))
        (so.left id (live_exists m (cell_pass old.0) slots id sized pass live) (subst (λ h. IsLive (stage_of (state_of m h) id)) (sym was) live));
  })
    where
      number : (cell_pass inside.0).number ≡ (cell_pass old.0).number
      number = ap (λ (y : Me F (CellView S A R)). y.0.seats.number) same

      joined : (cell_pass inside.0).joined ≡ (cell_pass old.0).joined
      joined = ap (λ (y : Me F (CellView S A R)). y.0.seats.joined) same
