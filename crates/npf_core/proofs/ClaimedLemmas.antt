-- A claimed identity was claimed by an entry, and one that is claimed before and after some entries wasn't freed by them.
use Rattle.std.proofs.{Common.{◌≡◌, ℕ, Bool, true, false, List, [], ◌∷◌, ◌++◌, cond, refl, ap}, lemmas.List.Elements.{Contains-append_left, Contains-push}}
use Rattle.npf_core.specs.declared.{act.Act.{Act, TheVariants.{Claim, Look, Hold, Start, Step, Kill, Unhold, Free}}, conn_id.ConnId.ConnId, entry.Entry.Entry}
use Rattle.npf_core.specs.{declared.stage.Stage.TheVariants.Vacant, ClaimedLaw.{WasNotFreed, HasClaim, WasClaimed}, History.{after, state_from, is_free, frees}}
use Rattle.npf_core.{specs.{Machine.{Machine, opening, stage_of, IsClaimed}, Meaning.Meaning}, proofs.{EqualityLemmas.is_id-Decides, HistoryLemmas.by_entries}}
use Rattle.npf_core.proofs.HolderLemmas.{claimed_by}
use Rattle.npf_core.proofs.LifeLemmas.{Life, gone, life_of, life_of-opening, stage_in, stage_of-is, Touch, own, apart, touch, Moves, keeps, claims}
use Rattle.npf_core.proofs.LifeLemmas.{starts, steps, abandons, expires, frees as is_freed, entry_moves}

module _ {S A R : Type 0} (m : Meaning S A R) (id : ConnId) (past : List (Entry S A R)) (entry : Entry S A R) where
  claimed_earlier : HasClaim past id → HasClaim (past ++ entry ∷ []) id
  claimed_earlier h = record { entry = h.entry; stands = Contains-append_left past (entry ∷ []) h.entry h.stands; replied = h.replied }

  claimed_by_move : (x y : Life S) → Moves m entry.seat entry.act entry.reply id x y →
      (IsClaimed (stage_in x) → HasClaim past id) → IsClaimed (stage_in y) → HasClaim (past ++ entry ∷ []) id
  claimed_by_move _ _ (keeps silent) was now = claimed_earlier (was now)
  claimed_by_move _ _ (claims packet act reply) was now = record { entry = entry; stands = Contains-push past entry; replied = reply }
  claimed_by_move _ _ (starts packet init act answer) was now = claimed_earlier (was tt)
  claimed_by_move _ _ (steps packet way arg flow n act reply) was now = claimed_earlier (was tt)
  claimed_by_move _ _ (abandons act answer) was now = claimed_earlier (was tt)
  claimed_by_move _ _ (expires time flow n act answer due) was now = claimed_earlier (was tt)
  claimed_by_move _ _ (is_freed act answer) was now = absurd now

-- a claimed identity was claimed by an entry
pub was_claimed : {S A R : Type 0} (m : Meaning S A R) (slots : ℕ) → WasClaimed m slots
was_claimed {S} {A} {R} m slots history id legal claimed =
    by_entries m slots (λ past k. IsClaimed (stage_in (life_of k id)) → HasClaim past id)
    (λ past k entry was follows. claimed_by_move m id past entry _ _ (entry_moves m slots k entry id follows) was)
    [] opening history
    (life_of-opening (λ (x : Life S). IsClaimed (stage_in x) → HasClaim {S = S} {A = A} {R = R} [] id) id (λ h. absurd h) (λ h. absurd h))
    legal (rw (← stage_of-is) claimed)

-- what was freed stays so
gone_moves : {S A R : Type 0} (m : Meaning S A R) (entry : Entry S A R) (id : ConnId) (x y : Life S) →
    Moves m entry.seat entry.act entry.reply id x y → x ≡ gone → y ≡ gone
gone_moves m entry id _ _ (keeps silent) e = e
gone_moves m entry id _ _ (claims packet act reply) e = absurd cc
gone_moves m entry id _ _ (starts packet init act answer) e = absurd cc
gone_moves m entry id _ _ (steps packet way arg flow n act reply) e = absurd cc
gone_moves m entry id _ _ (abandons act answer) e = absurd cc
gone_moves m entry id _ _ (expires now flow n act answer due) e = absurd cc
gone_moves m entry id _ _ (is_freed act answer) e = refl

by_own : {S : Type 0} (id : ConnId) (was now before next : Life S) → Touch id id was now before next → next ≡ now
by_own id _ _ _ _ (own same b n) = n
by_own id _ _ _ _ (apart e n) = absurd (let same = (is_id-Decides id id).1 refl in cc)

module _ {S A R : Type 0} (m : Meaning S A R) where
  freed_gone : (k : Machine S) (entry : Entry S A R) (id : ConnId) → entry.act ≡ Free id → IsClaimed (stage_of k id) → life_of (after m k entry) id ≡ gone
  freed_gone k entry id act h = rw act (by_own id _ _ _ _ (touch k id id (λ _. Vacant) h))

  freed_id : (act : Act S A) (id : ConnId) → is_free id act ≡ true → act ≡ Free id
  freed_id (Free other) id e = ap (λ i. Free i) ((is_id-Decides other id).0 e)
  freed_id (Claim packet slot) id e = absurd cc
  freed_id (Look packet key) id e = absurd cc
  freed_id (Hold other key way) id e = absurd cc
  freed_id (Start other packet init) id e = absurd cc
  freed_id (Step packet other way arg) id e = absurd cc
  freed_id (Kill other why) id e = absurd cc
  freed_id (Unhold other way) id e = absurd cc

-- what is claimed before and after wasn't freed in between
pub was_not_freed : {S A R : Type 0} (m : Meaning S A R) (slots : ℕ) → WasNotFreed m slots
was_not_freed m slots k [] id legal h g = refl
was_not_freed {S} {A} {R} m slots k (entry ∷ entries) id legal h g =
    by_test (λ still. was_not_freed m slots (after m k entry) entries id legal.1 still g) (is_free id entry.act) refl
  where
    by_test : (IsClaimed (stage_of (after m k entry) id) → frees id entries ≡ []) → (free : Bool) → is_free id entry.act ≡ free →
        cond free (entry ∷ frees id entries) (frees id entries) ≡ []
    by_test rest true e =
        let here = freed_gone m k entry id (freed_id m entry.act id e) h in
        let there = by_entries m slots (λ _ l. life_of l id ≡ gone) (λ past l x p f. gone_moves m x id _ _ (entry_moves m slots l x id f) p) [] (after m k entry) entries here legal.1 in
        let last : IsClaimed (stage_in (life_of (state_from m (after m k entry) entries) id)) = rw stage_of-is at g in
        let none : ⊥ = rw there at last in absurd none
    by_test rest false e =
        rest (claimed_by m slots k entry id legal.0 (λ act. let same : is_free id entry.act ≡ true = rw act ((is_id-Decides id id).1 refl) in cc) h)
