-- What a pass may rely on in its stay.
use Rattle.std.proofs.Common.{◌≡◌, ◌≢◌, ℕ, Bool, true, false, ◌||◌, List, [], ◌∷◌, ◌++◌, Option, Some, None, IsTrue, refl, ap, sym, ◌∙◌, inl, inr}
use Rattle.npf_types.specs.declared.key.{Key.Key, Way.Way}
use Rattle.npf_core.specs.declared.{act.Act.{Act, TheVariants.{Claim, Look, Hold, Start, Step, Kill, Unhold, Free}}, conn_id.ConnId.ConnId, entry.Entry.Entry}
use Rattle.npf_core.specs.declared.{found.Found.Found, held.Held.Held, reply.Reply.TheVariants.{ToClaim, ToHold}, stage.Stage.TheVariants.Building}
use Rattle.npf_core.specs.History.{MayFollow, LegalFrom, Legal, after, state_from, state_of, by}
use Rattle.npf_core.specs.{Machine.{Machine, opening, stage_of, IsClaimed, IsAlive, HoldsNone, HoldsSome}, Meaning.Meaning, NextState.is_way}
use Rattle.npf_core.{specs.Replies.{held_by, claimed_id, reply_of}, proofs.{BuildingLemmas.{builds_after, holds_none_after}, ClaimedLemmas.was_not_freed}}
use Rattle.npf_core.proofs.EqualityLemmas.{is_key-Decides, is_way-Decides}
use Rattle.npf_core.proofs.HistoryLemmas.{LegalFrom-rest, LegalFrom-front, MayFollow-split, state_from-append, state_of-append}
use Rattle.npf_core.proofs.{HolderLemmas.{Passes, rests, gives, loses, passes, claim_with_none}, KeyLemmas.{stays_holder, holder_stays}}
use Rattle.npf_connections.specs.{Entries.entry_of, Pass.{Pass, IsPass, Knows}}
use Rattle.npf_connections.specs.{StayLaw.{KnownIsNotFreed, ClaimedHoldsNone, Holding, HoldingKeepsWays, HoldingKeepsBare}, Ways.{HoldsThese, held_after}}
use Rattle.npf_connections.proofs.AddLemmas.{AddsLast, adds_last}

module _ {S A R : Type 0} (m : Meaning S A R) (k : Machine S) (id : ConnId) where
  -- the entry claims this identity
  record IsClaim (asked : Act S A) : Type 0 where
    pub packet : ℕ
    pub slot : ℕ
    pub act : asked ≡ Claim packet slot
    pub gives : claimed_id k slot ≡ id

  claims_id : (act : Act S A) → reply_of m k act ≡ ToClaim id → IsClaim act
  claims_id (Claim packet slot) e = record { packet = packet; slot = slot; act = refl; gives = cc }
  claims_id (Look packet key) e = absurd cc
  claims_id (Hold other key way) e = absurd cc
  claims_id (Start other packet init) e = absurd cc
  claims_id (Step packet other way arg) e = absurd cc
  claims_id (Kill other why) e = absurd cc
  claims_id (Unhold other way) e = absurd cc
  claims_id (Free other) e = absurd cc

-- what was claimed by the last entry holds no key
pub claimed_holds_none : {S A R : Type 0} (m : Meaning S A R) → ClaimedHoldsNone m
claimed_holds_none m slots history entry id way legal reply =
    let k = state_of m history in
    let follows = MayFollow-split m slots history [] entry legal in
    let claim = claims_id m k id entry.act (sym follows.replied ∙ reply) in
    let none = claim_with_none m slots history (LegalFrom-front m slots opening history (entry ∷ []) legal) claim.slot way in
    rw (state_of-append m history entry, claim.act) (rw claim.gives at none)

module _ {S A R : Type 0} (m : Meaning S A R) where
  -- what a pass knows is claimed
  pub known_claimed : (pass : Pass (Entry S A R)) (id : ConnId) → IsPass m pass → Knows pass id → IsClaimed (stage_of (state_of m pass.history) id)
  known_claimed pass id is (inl c) = is.stays id c
  known_claimed pass id is (inr c) = rw (is.building id c) tt

  -- the rest of a longer legal history is legal
  pub rest_legal : (slots : ℕ) (before rest history : List (Entry S A R)) → Legal m slots history → history ≡ before ++ rest → LegalFrom m slots (state_of m before) rest
  rest_legal slots before rest history legal is = LegalFrom-rest m slots opening before rest (rw is at legal)

  pub known_not_freed : KnownIsNotFreed m
  known_not_freed old now rest id p q slots is before later =
      let now_claimed = known_claimed now id q later in
      was_not_freed m now.slots (state_of m old.history) rest id (rest_legal now.slots old.history rest now.history q.legal is)
      (known_claimed old id p before) (rw (is, state_from-append m opening old.history rest) at now_claimed)

-- how the keys of a connection go on that is asked a key
record Goes {S : Type 0} (k next : Machine S) (id : ConnId) (way : Way) (result : Held) : Type 0 where
  pub none : (other : Way) → (result ≡ Held.Done → other ≢ way) → HoldsNone k id other → HoldsNone next id other
  pub some : (other : Way) → HoldsSome k id other → HoldsSome next id other
  pub given : result ≡ Held.Done → HoldsSome next id way

goes_on : {S : Type 0} (k mid next : Machine S) (id : ConnId) (way : Way) (result : Held) → Goes k mid id way Held.NoNode → Goes mid next id way result → Goes k next id way result
goes_on k mid next id way result p q = record {
  none = λ other free h. q.none other free (p.none other (λ done. absurd cc) h);
  some = λ other h. q.some other (p.some other h);
  given = q.given;
}

alive : {S : Type 0} (k : Machine S) (id : ConnId) (seat : ℕ) → stage_of k id ≡ Building seat → IsAlive (stage_of k id)
alive k id seat e = rw e tt

module _ {S A R : Type 0} (m : Meaning S A R) (slots : ℕ) (k : Machine S) (seat : ℕ) (id : ConnId) (built : stage_of k id ≡ Building seat) (way : Way) where
  -- by entries of others
  others_go : (rest : List (Entry S A R)) → LegalFrom m slots k rest → by seat rest ≡ [] → Goes k (state_from m k rest) id way Held.NoNode
  others_go rest legal others = record {
    none = λ other free h. holds_none_after m slots k rest seat id other legal others built h;
    some = λ other h. (
      h.0,
      stays_holder m slots k rest h.0 (record { id = id; way = other }) legal h.1 (alive k id seat built)
          (alive (state_from m k rest) id seat (builds_after m slots k rest seat id legal others built)),
    );
    given = λ done. absurd cc;
  }

  module _ (entry : Entry S A R) (key : Key) (result : Held) (follows : MayFollow m slots k entry) (act : entry.act ≡ Hold id key way) (reply : entry.reply ≡ ToHold result) where
    answered : result ≡ held_by (k.holder key)
    answered = let replied : entry.reply ≡ ToHold (held_by (k.holder key)) = rw act at follows.replied in cc (replied, reply)

    gives_none : (x : Option Found) → held_by x ≡ Held.Done → x ≡ None
    gives_none None e = refl
    gives_none (Some found) e = absurd cc

    passes_none : (other : Way) → (result ≡ Held.Done → other ≢ way) → (its : Key) (x y : Option Found) → Passes entry.act its x y → k.holder its ≡ x →
        ¬ (x ≡ Some (record { id = id; way = other })) → ¬ (y ≡ Some (record { id = id; way = other }))
    passes_none other free its _ _ rests was none e = none e
    passes_none other free its _ _ (gives found gave) was none e =
        let same : found ≡ record { id = id; way = other } = cc in
        let acts = sym gave ∙ act in
        let keys : its ≡ key = cc in
        let ways : found.way ≡ way = cc in
        let done : result ≡ Held.Done = answered ∙ ap held_by (ap k.holder (sym keys) ∙ was) in
        free done (sym (ap (λ (f : Found). f.way) same) ∙ ways)
    passes_none other free its _ _ (loses found lost) was none e = absurd cc

    gives_key : result ≡ Held.Done → (after m k entry).holder key ≡ Some (record { id = id; way = way })
    gives_key done =
        let unheld = gives_none (k.holder key) (sym answered ∙ done) in
        let same = (is_key-Decides key key).1 refl in
        rw (act, same, unheld) refl

    -- by the entry of the hold
    hold_goes : Goes k (after m k entry) id way result
    hold_goes = record {
      none = λ other free h its. passes_none other free its _ _ (passes entry.act its (k.holder its)) refl (h its);
      some = λ other h. (h.0, holder_stays m slots k entry h.0 (record { id = id; way = other }) follows (alive k id seat built) h.1);
      given = λ done. (key, gives_key done);
    }

module _ {S A R : Type 0} (m : Meaning S A R) (old now : Pass (Entry S A R)) (id : ConnId) (key : Key) (way : Way) (result : Held) where
  abbrev Went : Type 0
  Went = Goes (state_of m old.history) (state_of m now.history) id way result

  went_last : Holding m old now id key way result → AddsLast old now.history (entry_of old (Hold id key way) (ToHold result)) → Went
  went_last h last =
      let k = state_of m old.history in
      let entry = entry_of old (Hold id key way) (ToHold result) in
      let mid = state_from m k last.init in
      let built = h.before.building id h.builds in
      let legal = rest_legal m now.slots old.history (last.init ++ entry ∷ []) now.history h.after.legal last.goes_on in
      let front = LegalFrom-front m now.slots k last.init (entry ∷ []) legal in
      let follows = (LegalFrom-rest m now.slots k last.init (entry ∷ []) legal).0 in
      let still = builds_after m now.slots k last.init old.number id front last.others built in
      let end : state_of m now.history ≡ after m mid entry =
      ap (state_of m) last.goes_on ∙ (state_from-append m opening old.history (last.init ++ entry ∷ []) ∙ state_from-append m k last.init (entry ∷ [])) in
      rw end (goes_on k mid (after m mid entry) id way result
      (others_go m now.slots k old.number id built way last.init front last.others)
      (hold_goes m now.slots mid old.number id still way entry key result follows refl refl))

went : {S A R : Type 0} (m : Meaning S A R) (old now : Pass (Entry S A R)) (id : ConnId) (key : Key) (way : Way) (result : Held) →
    Holding m old now id key way result → Went m old now id key way result
went m old now id key way Held.Done h = went_last m old now id key way Held.Done h (adds_last old now.history _ h.adds refl)
went m old now id key way (Held.Taken found) h = went_last m old now id key way (Held.Taken found) h (adds_last old now.history _ h.adds refl)
went m old now id key way Held.NoNode h =
    let adds = h.adds.adds in
    let legal = rest_legal m now.slots old.history adds.rest now.history h.after.legal adds.goes_on in
    rw (adds.goes_on, state_from-append m opening old.history adds.rest)
    (others_go m now.slots (state_of m old.history) old.number id (h.before.building id h.builds) way adds.rest legal adds.own)

pub holding_keeps_bare : {S A R : Type 0} (m : Meaning S A R) → HoldingKeepsBare m
holding_keeps_bare m old now id key way result h =
    let w = went m old now id key way result h in
    record { others = λ other apart none. w.none other (λ done. apart) none; refused = λ refused. w.none way (λ done. absurd (refused done)) h.none }

module _ {S : Type 0} (k next : Machine S) (id : ConnId) (way : Way) (held : Way → Bool) (these : HoldsThese k id held) where
  held_still : (result : Held) (other : Way) → Goes k next id way result → (result ≡ Held.Done → other ≢ way) → HoldsSome next id other → IsTrue (held other)
  held_still result other w free some = at_test (held other) refl
    where
      at_test : (test : Bool) → held other ≡ test → IsTrue test
      at_test true e = refl
      at_test false e = absurd (w.none other free (λ its holds. absurd (let is : IsTrue false = rw e at ((these other).0 (its, holds)) in cc)) some.0 some.1)

  still_held : (result : Held) (other : Way) → Goes k next id way result → IsTrue (held other) → HoldsSome next id other
  still_held result other w h = w.some other ((these other).1 h)

  after_done : Goes k next id way Held.Done → HoldsThese next id (held_after Held.Done way held)
  after_done w other = (λ some. first (is_way other way) refl some, λ h. second (is_way other way) refl h)
    where
      first : (test : Bool) → is_way other way ≡ test → HoldsSome next id other → IsTrue (test || held other)
      first true e some = refl
      first false e some = held_still Held.Done other w (λ done same. absurd (let is = (is_way-Decides other way).1 same in cc)) some

      second : (test : Bool) → is_way other way ≡ test → IsTrue (test || held other) → HoldsSome next id other
      second true e h = rw ((is_way-Decides other way).0 e) (w.given refl)
      second false e h = still_held Held.Done other w h

pub holding_keeps_ways : {S A R : Type 0} (m : Meaning S A R) → HoldingKeepsWays m
holding_keeps_ways {S} {A} {R} m old now id key way result h held these = by_result result (went m old now id key way result h)
  where
    k : Machine S
    k = state_of m old.history

    next : Machine S
    next = state_of m now.history

    by_result : (r : Held) → Goes k next id way r → HoldsThese next id (held_after r way held)
    by_result Held.Done w = after_done k next id way held these w
    by_result (Held.Taken found) w = λ other. (held_still k next id way held these (Held.Taken found) other w (λ done. absurd cc), still_held k next id way held these (Held.Taken found) other w)
    by_result Held.NoNode w = λ other. (held_still k next id way held these Held.NoNode other w (λ done. absurd cc), still_held k next id way held these Held.NoNode other w)
