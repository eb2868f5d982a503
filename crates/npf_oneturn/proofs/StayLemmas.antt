-- What a pass was answered and builds, as it asks for an act of its own.
use Rattle.std.{proofs.Common.{◌≡◌, ℕ, List, [], Option, Some, None, refl, ap, sym, subst, ◌∙◌, ⊎_elim}, specs.List.Contains}
use Rattle.std.proofs.lemmas.List.Elements.{Contains-append_cases}
use Rattle.npf_types.specs.declared.key.{Key.Key, Way.Way}
use Rattle.npf_core.specs.declared.{act.Act.{Act, TheVariants.{Claim, Look, Hold, Start, Step, Kill, Unhold, Free}}, conn_id.ConnId.ConnId, entry.Entry.Entry}
use Rattle.npf_core.specs.{declared.{found.Found.Found, stage.Stage.TheVariants.{Building, Dead}}, Allowed.Allows, HolderLaw.HoldersAreClaimed}
use Rattle.npf_core.specs.{Machine.{Machine, stage_of, IsClaimed, HoldsNone}, Meaning.Meaning, NextState.after_act, Replies.{reply_of, claimed_id, held_by}}
use Rattle.npf_core.proofs.{BuildingLemmas.claim_builds, HolderLemmas.{Passes, rests, gives, loses, passes, may_hold, claimed_by}}
use Rattle.npf_core.proofs.LifeLemmas.{Life, stage_in, stage_of-is, Moves, keeps, claims, starts, steps, abandons, expires, frees, moves}
use Rattle.npf_connections.{specs.Answered.{found_ids, taken_ids}, proofs.WithoutLemmas.Contains-without_parts}
use Rattle.npf_seats.proofs.PrefixLemmas.{none_listed, cons_cases}
use Rattle.npf_oneturn.specs.{Endings.{answered_after, builds_after}, Rule.DeadHoldNone}

module _ {S A R : Type 0} (m : Meaning S A R) (slots : ℕ) (k : Machine S) (seat : ℕ) (act : Act S A) (allowed : Allows m slots k seat act) where
  abbrev next : Machine S
  next = after_act m k seat act

  abbrev entry : Entry S A R
  entry = record { seat = seat; act = act; reply = reply_of m k act }

  -- what is claimed stays so where it isn't freed
  pub claimed_next : (id : ConnId) → ¬ (act ≡ Free id) → IsClaimed (stage_of k id) → IsClaimed (stage_of next id)
  claimed_next id free h = claimed_by m slots k entry id (record { allowed = allowed; replied = refl }) free h

  built_move : (id : ConnId) (x y : Life S) → Moves m seat act (reply_of m k act) id x y → ((packet : ℕ) (init : S) → ¬ (act ≡ Start id packet init)) → ((why : _) → ¬ (act ≡ Kill id why)) →
      stage_in x ≡ Building seat → stage_in y ≡ Building seat
  built_move id _ _ (keeps silent) start kill e = e
  built_move id _ _ (claims packet is reply) start kill e = absurd cc
  built_move id _ _ (starts packet init is answer) start kill e = absurd (start packet init is)
  built_move id _ _ (steps packet way arg flow n is reply) start kill e = absurd cc
  built_move id _ _ (abandons is answer) start kill e = absurd (kill _ is)
  built_move id _ _ (expires now flow n is answer due) start kill e = absurd cc
  built_move id _ _ (frees is answer) start kill e = absurd cc

  -- what the seat builds stays so where it is neither started nor killed
  pub built_next : (id : ConnId) → ((packet : ℕ) (init : S) → ¬ (act ≡ Start id packet init)) → ((why : _) → ¬ (act ≡ Kill id why)) →
      stage_of k id ≡ Building seat → stage_of next id ≡ Building seat
  built_next id start kill e = rw stage_of-is (built_move id _ _ (moves m slots k seat id act allowed) start kill (sym (stage_of-is k id) ∙ e))

  pub dead_move : (id : ConnId) (x y : Life S) → Moves m seat act (reply_of m k act) id x y → ((why : _) → ¬ (act ≡ Kill id why)) → stage_in y ≡ Dead → stage_in x ≡ Dead
  dead_move id _ _ (keeps silent) kill e = e
  dead_move id _ _ (claims packet is reply) kill e = absurd cc
  dead_move id _ _ (starts packet init is answer) kill e = absurd cc
  dead_move id _ _ (steps packet way arg flow n is reply) kill e = absurd cc
  dead_move id _ _ (abandons is answer) kill e = absurd (kill _ is)
  dead_move id _ _ (expires now flow n is answer due) kill e = absurd (kill _ is)
  dead_move id _ _ (frees is answer) kill e = absurd cc

  none_passes : (id : ConnId) (way : Way) → ((found : Found) (key : Key) → act ≡ Hold found.id key found.way → ¬ (found.id ≡ id)) → (key : Key) (x y : Option Found) →
      Passes act key x y → ¬ (x ≡ Some (record { id = id; way = way })) → ¬ (y ≡ Some (record { id = id; way = way }))
  none_passes id way apart key _ _ rests none e = none e
  none_passes id way apart key _ _ (gives found is) none e =
      let same : found ≡ record { id = id; way = way } = cc in
      apart found key is (ap (λ (f : Found). f.id) same)
  none_passes id way apart key _ _ (loses found is) none e = absurd cc

  -- an identity that the act gives no key holds none of a way of which it held none
  pub none_next : (id : ConnId) (way : Way) → ((found : Found) (key : Key) → act ≡ Hold found.id key found.way → ¬ (found.id ≡ id)) → HoldsNone k id way → HoldsNone next id way
  none_next id way apart none key = none_passes id way apart key _ _ (passes act key (k.holder key)) (none key)

  -- what is Dead holds no key after an act that kills nothing
  pub bare_next : ((id : ConnId) (why : _) → ¬ (act ≡ Kill id why)) → DeadHoldNone k → DeadHoldNone next
  bare_next kill bare id dead way =
      let was : stage_of k id ≡ Dead = rw stage_of-is (dead_move id _ _ (moves m slots k seat id act allowed) (kill id) (sym (stage_of-is next id) ∙ dead)) in
      none_next id way
      (λ found key is same.
      let built = (may_hold m slots k seat act found.id key found.way is allowed).built in
      let both : Building seat ≡ Dead = sym built ∙ (ap (stage_of k) same ∙ was) in
      absurd cc)
      (bare id was way)

module _ {S A R : Type 0} (m : Meaning S A R) (slots : ℕ) (k : Machine S) (seat : ℕ) (claimed : HoldersAreClaimed k) (ids : List ConnId) where
  abbrev Answered : Act S A → Type 0
  Answered act = (id : ConnId) → Contains (answered_after act (reply_of m k act) ids) id → IsClaimed (stage_of (after_act m k seat act) id)

  found_claimed : (key : Key) (x : Option Found) → k.holder key ≡ x → (id : ConnId) → Contains (found_ids x) id → IsClaimed (stage_of k id)
  found_claimed key None e id c = absurd (none_listed id c)
  found_claimed key (Some found) e id c = ⊎_elim
      (λ (same : found.id ≡ id). subst (λ (i : ConnId). IsClaimed (stage_of k i)) same (claimed key found e))
      (λ (n : Contains [] id). absurd (none_listed id n))
      (cons_cases found.id id [] c)

  taken_claimed : (key : Key) (x : Option Found) → k.holder key ≡ x → (id : ConnId) → Contains (taken_ids (held_by x)) id → IsClaimed (stage_of k id)
  taken_claimed key None e id c = absurd (none_listed id c)
  taken_claimed key (Some found) e id c = found_claimed key (Some found) e id c

  -- what a pass is answered by an act is claimed, and what it was answered stays so
  pub answered_next : (act : Act S A) → Allows m slots k seat act → ((id : ConnId) → ¬ (act ≡ Free id)) → ((id : ConnId) → Contains ids id → IsClaimed (stage_of k id)) → Answered act
  answered_next (Look packet key) h free were id c =
      claimed_next m slots k seat (Look packet key) h id (free id)
      (⊎_elim (λ d. found_claimed key (k.holder key) refl id d) (λ d. were id d) (Contains-append_cases (found_ids (k.holder key)) ids id c))
  answered_next (Claim packet slot) h free were id c = ⊎_elim
      (λ (same : claimed_id k slot ≡ id). subst (λ (i : ConnId). IsClaimed (stage_of (after_act m k seat (Claim packet slot)) i)) same (rw (claim_builds m k seat packet slot) tt))
      (λ (d : Contains ids id). claimed_next m slots k seat (Claim packet slot) h id (free id) (were id d))
      (cons_cases (claimed_id k slot) id ids c)
  answered_next (Hold other key way) h free were id c =
      claimed_next m slots k seat (Hold other key way) h id (free id) (taken_claimed key (k.holder key) refl id c)
  answered_next (Start other packet init) h free were id c = claimed_next m slots k seat (Start other packet init) h id (free id) (were id c)
  answered_next (Step packet other way arg) h free were id c = claimed_next m slots k seat (Step packet other way arg) h id (free id) (were id c)
  answered_next (Kill other why) h free were id c = claimed_next m slots k seat (Kill other why) h id (free id) (were id c)
  answered_next (Unhold other way) h free were id c = claimed_next m slots k seat (Unhold other way) h id (free id) (were id c)
  answered_next (Free other) h free were id c = absurd (free other refl)

module _ {S A R : Type 0} (m : Meaning S A R) (slots : ℕ) (k : Machine S) (seat : ℕ) (ids : List ConnId) where
  abbrev Built : Act S A → Type 0
  Built act = (id : ConnId) → Contains (builds_after act (reply_of m k act) ids) id → stage_of (after_act m k seat act) id ≡ Building seat

  -- what a pass begins it builds, and what it builds stays so until it is started or killed
  pub builds_next : (act : Act S A) → Allows m slots k seat act → ((id : ConnId) → Contains ids id → stage_of k id ≡ Building seat) → Built act
  builds_next (Claim packet slot) h were id c = ⊎_elim
      (λ (same : claimed_id k slot ≡ id).
      subst (λ (i : ConnId). stage_of (after_act m k seat (Claim packet slot)) i ≡ Building seat) same (claim_builds m k seat packet slot))
      (λ (d : Contains ids id). built_next m slots k seat (Claim packet slot) h id (λ n init e. absurd cc) (λ why e. absurd cc) (were id d))
      (cons_cases (claimed_id k slot) id ids c)
  builds_next (Start other packet init) h were id c =
      let left = Contains-without_parts id other ids c in
      built_next m slots k seat (Start other packet init) h id (λ n i e. left.1 (sym cc)) (λ why e. absurd cc) (were id left.0)
  builds_next (Kill other why) h were id c =
      let left = Contains-without_parts id other ids c in
      built_next m slots k seat (Kill other why) h id (λ n i e. absurd cc) (λ w e. left.1 (sym cc)) (were id left.0)
  builds_next (Look packet key) h were id c = built_next m slots k seat (Look packet key) h id (λ n i e. absurd cc) (λ w e. absurd cc) (were id c)
  builds_next (Hold other key way) h were id c = built_next m slots k seat (Hold other key way) h id (λ n i e. absurd cc) (λ w e. absurd cc) (were id c)
  builds_next (Step packet other way arg) h were id c =
      built_next m slots k seat (Step packet other way arg) h id (λ n i e. absurd cc) (λ w e. absurd cc) (were id c)
  builds_next (Unhold other way) h were id c = built_next m slots k seat (Unhold other way) h id (λ n i e. absurd cc) (λ w e. absurd cc) (were id c)
  builds_next (Free other) h were id c = built_next m slots k seat (Free other) h id (λ n i e. absurd cc) (λ w e. absurd cc) (were id c)
