-- The identity law.
use Rattle.std.proofs.Common.{◌≡◌, ℕ, ◌+◌, ◌-◌, ◌^◌, ◌<◌, Bool, true, false, ◌==◌, cond, List, [], ◌∷◌, ◌++◌, refl, ap, sym, ◌∙◌, arith}
use Rattle.std.proofs.lemmas.Bool.Decides.{Decides-eqb}
use Rattle.npf_types.specs.declared.key.Way.{Way}
use Rattle.npf_core.specs.declared.{act.Act.{Act, TheVariants.{Claim, Look, Hold, Start, Step, Kill, Unhold, Free}}, conn_id.ConnId.ConnId, entry.Entry.Entry}
use Rattle.npf_core.specs.declared.{reply.Reply.TheVariants.ToClaim, slot.Slot.Slot, stage.Stage.{Stage, TheVariants.{Vacant, Building, Live, Dead}}}
use Rattle.npf_core.specs.{Allowed.Allows, History.{after, LegalFrom, state_of, state_from}, IdentityLaw.{ClaimsOnce, IncarnationFits, CountsIncarnations}}
use Rattle.npf_core.specs.{Machine.{Machine, opening}, Meaning.Meaning, NextState.{stepped, after_act}}
use Rattle.npf_core.proofs.HistoryLemmas.{LegalFrom-front, LegalFrom-rest, by_entries}
use Rattle.npf_core.proofs.LifeLemmas.{IsClaimed-last, IsClaimed-is, Life, to_come, built, lives, killed, gone, life_of, Moves, keeps, claims, starts, steps, abandons, expires, frees, entry_moves}

-- claimed at some time
abbrev pub IsBorn : {S : Type 0} → Life S → Type 0
IsBorn to_come = ⊥
IsBorn (built seat) = Unit {0}
IsBorn (lives flow n) = Unit {0}
IsBorn killed = Unit {0}
IsBorn gone = Unit {0}

module _ {S A R : Type 0} (m : Meaning S A R) (entry : Entry S A R) (id : ConnId) where
  born_moves : (x y : Life S) → Moves m entry.seat entry.act entry.reply id x y → IsBorn x → IsBorn y
  born_moves _ _ (keeps silent) h = h
  born_moves _ _ (claims packet act reply) h = tt
  born_moves _ _ (starts packet init act answer) h = tt
  born_moves _ _ (steps packet way arg flow n act reply) h = tt
  born_moves _ _ (abandons act answer) h = tt
  born_moves _ _ (expires now flow n act answer due) h = tt
  born_moves _ _ (frees act answer) h = tt

  -- a claim of the identity comes before its life, which it begins
  claim_begins : (x y : Life S) → Moves m entry.seat entry.act entry.reply id x y → entry.reply ≡ ToClaim id → (x ≡ to_come) × IsBorn y
  claim_begins _ _ (keeps silent) e = absurd (silent.claim e)
  claim_begins _ _ (claims packet act reply) e = (refl, tt)
  claim_begins _ _ (starts packet init act answer) e = absurd cc
  claim_begins _ _ (steps packet way arg flow n act reply) e = absurd cc
  claim_begins _ _ (abandons act answer) e = absurd cc
  claim_begins _ _ (expires now flow n act answer due) e = absurd cc
  claim_begins _ _ (frees act answer) e = absurd cc

module _ {S A R : Type 0} (m : Meaning S A R) (slots : ℕ) where
  -- what was claimed once is never to come again
  pub stays_born : (k : Machine S) (entries : List (Entry S A R)) (id : ConnId) → LegalFrom m slots k entries → IsBorn (life_of k id) → IsBorn (life_of (state_from m k entries) id)
  stays_born k entries id legal h =
      by_entries m slots (λ _ k. IsBorn (life_of k id)) (λ past k entry h f. born_moves m entry id _ _ (entry_moves m slots k entry id f) h) [] k entries h legal

  -- an identity is claimed at most once
  pub claims_once : ClaimsOnce m slots
  claims_once before between rest first second id legal claimed again =
      let k = state_of m before in
      let from = LegalFrom-rest m slots opening before (first ∷ (between ++ second ∷ rest)) legal in
      let born = (claim_begins m first id _ _ (entry_moves m slots k first id from.0) claimed).1 in
      let later = state_from m (after m k first) between in
      let front = LegalFrom-front m slots (after m k first) between (second ∷ rest) from.1 in
      let follows = (LegalFrom-rest m slots (after m k first) between (second ∷ rest) from.1).0 in
      let unborn : life_of later id ≡ to_come = (claim_begins m second id _ _ (entry_moves m slots later second id follows) again).0 in
      rw unborn at (stays_born (after m k first) between id front born)

-- a slot that a claim doesn't touch, at another stage
restaged : {S : Type 0} (x : Slot S) (stage : Stage S) (here : Bool) → IncarnationFits x → (here ≡ true → stage ≡ Vacant → x.inc < 2 ^ 64 - 1) →
    IncarnationFits (cond here (record x { stage = stage }) x)
restaged x stage true h f = record { last = h.last; next = f refl }
restaged x stage false h f = h

claimed_fits : {S : Type 0} (x : Slot S) (seat : ℕ) (here : Bool) → IncarnationFits x → (here ≡ true → x.stage ≡ Vacant) →
    IncarnationFits (cond here (record { inc = x.inc + 1; stage = Building seat }) x)
claimed_fits x seat true h f = let next = h.next (f refl) in record { last = omega arith; next = λ e. absurd cc }
claimed_fits x seat false h f = h

stepped_vacant : {S A R : Type 0} (m : Meaning S A R) (way : Way) (arg : A) (stage : Stage S) → stepped m way arg stage ≡ Vacant → stage ≡ Vacant
stepped_vacant m way arg Vacant e = refl
stepped_vacant m way arg (Building seat) e = e
stepped_vacant m way arg (Live flow n) e = absurd cc
stepped_vacant m way arg Dead e = e

module _ {S A R : Type 0} (m : Meaning S A R) (slots : ℕ) (k : Machine S) (seat slot : ℕ) (h : IncarnationFits (k.slot slot)) where
  fits_after : (act : Act S A) → Allows m slots k seat act → IncarnationFits ((after_act m k seat act).slot slot)
  fits_after (Claim packet at) a =
      claimed_fits (k.slot slot) seat (at == slot) h (λ e. ap (λ s. (k.slot s).stage) (sym ((Decides-eqb at slot).0 e)) ∙ a.unclaimed)
  fits_after (Look packet key) a = h
  fits_after (Hold id key way) a = h
  fits_after (Start id packet init) a = restaged (k.slot slot) (Live init 1) (id.slot == slot) h (λ _ e. absurd cc)
  fits_after (Step packet id way arg) a =
      restaged (k.slot slot) (stepped m way arg (k.slot slot).stage) (id.slot == slot) h (λ _ e. h.next (stepped_vacant m way arg (k.slot slot).stage e))
  fits_after (Kill id why) a = restaged (k.slot slot) Dead (id.slot == slot) h (λ _ e. absurd cc)
  fits_after (Unhold id way) a = h
  fits_after (Free id) a =
      restaged (k.slot slot) Vacant (id.slot == slot) h
      (λ e _.
      let last : (k.slot id.slot).inc ≡ id.inc = IsClaimed-last (k.slot id.slot) id.inc (IsClaimed-is _ _ a.killed tt) in
      let same : (k.slot id.slot).inc ≡ (k.slot slot).inc = ap (λ s. (k.slot s).inc) ((Decides-eqb id.slot slot).0 e) in
      let further = a.further in
      omega arith)

-- each incarnation is a number of 64 bits
pub counts_incarnations : {S A R : Type 0} (m : Meaning S A R) (slots : ℕ) → CountsIncarnations m slots
counts_incarnations m slots history slot legal =
    by_entries m slots (λ _ k. IncarnationFits (k.slot slot)) (λ past k entry h f. fits_after m slots k entry.seat slot h entry.act f.allowed)
    [] opening history (record { last = omega arith; next = λ _. omega arith }) legal
