-- The stale look-up law.
use Rattle.std.proofs.Common.{◌≡◌, ◌⊎◌, ℕ, List, [], ◌∷◌, ◌++◌, Some, refl, ap, inl, inr}
use Rattle.npf_types.specs.declared.key.{Key.Key, Way.Way}
use Rattle.npf_core.specs.declared.{conn_id.ConnId.ConnId, entry.Entry.Entry, found.Found.Found, reply.Reply.TheVariants.{ToLook, ToStep}, stage.Stage.Stage}
use Rattle.npf_core.specs.declared.{stage.Stage.TheVariants.{Vacant, Building, Live, Dead}, stepped.Stepped.Stepped}
use Rattle.npf_core.specs.{History.{MayFollow, after, LegalFrom, state_of, state_from}, LookUpLaw.{Finds, FindsNotLive, LooksUpStale}}
use Rattle.npf_core.specs.{Machine.{Machine, opening, stage_of, IsAlive, IsLive, HasNoLive}, Meaning.Meaning, Replies.step_answer}
use Rattle.npf_core.proofs.{HistoryLemmas.{state_from-append, LegalFrom-front, LegalFrom-rest}, KeyLemmas.holder_stays}

live_or_not : {S : Type 0} (stage : Stage S) → IsLive stage ⊎ (¬ IsLive stage)
live_or_not Vacant = inr (λ h. h)
live_or_not (Building seat) = inr (λ h. h)
live_or_not (Live flow n) = inl tt
live_or_not Dead = inr (λ h. h)

live_alive : {S : Type 0} (stage : Stage S) → IsLive stage → IsAlive stage
live_alive Vacant h = h
live_alive (Building seat) h = tt
live_alive (Live flow n) h = h
live_alive Dead h = h

-- what is answered NotLive isn't Live
not_live : {S A R : Type 0} (m : Meaning S A R) (way : Way) (arg : A) (stage : Stage S) → Stepped.NotLive ≡ step_answer m way arg stage → ¬ IsLive stage
not_live m way arg Vacant e h = h
not_live m way arg (Building seat) e h = h
not_live m way arg (Live flow n) e h = cc
not_live m way arg Dead e h = h

-- a key whose holder isn't Live has no Live holder
none_live : {S : Type 0} (k : Machine S) (key : Key) (found : Found) → k.holder key ≡ Some found → ¬ IsLive (stage_of k found.id) → HasNoLive k key
none_live k key found e n other g h = let same : found ≡ other = cc in n (rw same h)

module _ {S A R : Type 0} (m : Meaning S A R) (slots : ℕ) (key : Key) (found : Found) where
  -- after some of the entries the key had no Live holder
  record Had (k : Machine S) (between : List (Entry S A R)) : Type 0 where
    earlier : List (Entry S A R)
    later : List (Entry S A R)
    split : between ≡ earlier ++ later
    none : HasNoLive (state_from m k earlier) key

  more : (k : Machine S) (entry : Entry S A R) (entries : List (Entry S A R)) → Had (after m k entry) entries → Had k (entry ∷ entries)
  more k entry entries had = record { earlier = entry ∷ had.earlier; later = had.later; split = ap (λ es. entry ∷ es) had.split; none = had.none }

  at_once : (k : Machine S) (entries : List (Entry S A R)) → HasNoLive k key → Had k entries
  at_once k entries none = record { earlier = []; later = entries; split = refl; none = none }

  -- from a holder to a state in which it isn't Live
  dies : (k : Machine S) (entries : List (Entry S A R)) → LegalFrom m slots k entries → k.holder key ≡ Some found →
      ¬ IsLive (stage_of (state_from m k entries) found.id) → (IsLive (stage_of k found.id) ⊎ (¬ IsLive (stage_of k found.id))) → Had k entries
  dies k entries legal holds n (inr over) = at_once k entries (none_live k key found holds over)
  dies k [] legal holds n (inl alive) = absurd (n alive)
  dies k (entry ∷ entries) legal holds n (inl alive) =
      more k entry entries (dies (after m k entry) entries legal.1 (holder_stays m slots k entry key found legal.0 (live_alive _ alive) holds) n (live_or_not _))

module _ {S A R : Type 0} (m : Meaning S A R) (slots : ℕ) where
  -- a look-up that finds a holder leaves it the holder
  found_holds : (k : Machine S) (look : Entry S A R) (key : Key) (found : Found) → MayFollow m slots k look → Finds look key found → (after m k look).holder key ≡ Some found
  found_holds k look key found follows finds =
      let replied : look.reply ≡ ToLook (k.holder key) = rw finds.act at follows.replied in
      rw finds.act (cc (replied, finds.answer))

  stale_not_live : (k : Machine S) (step : Entry S A R) (id : ConnId) → MayFollow m slots k step → FindsNotLive step id → ¬ IsLive (stage_of k id)
  stale_not_live k step id follows stale =
      let replied : step.reply ≡ ToStep (step_answer m stale.way stale.arg (stage_of k id)) = rw stale.act at follows.replied in
      not_live m stale.way stale.arg (stage_of k id) (cc (replied, stale.answer))

  -- between a look-up and a step that finds its holder not Live the key had no Live holder
  pub looks_up_stale : LooksUpStale m slots
  looks_up_stale before between rest look step key found legal finds stale =
      let k = state_of m before in
      let from = LegalFrom-rest m slots opening before (look ∷ (between ++ step ∷ rest)) legal in
      let holds = found_holds k look key found from.0 finds in
      let front = LegalFrom-front m slots (after m k look) between (step ∷ rest) from.1 in
      let follows = (LegalFrom-rest m slots (after m k look) between (step ∷ rest) from.1).0 in
      let over = stale_not_live (state_from m (after m k look) between) step found.id follows stale in
      let had = dies m slots key found (after m k look) between front holds over (live_or_not _) in
      record {
        earlier = had.earlier;
        later = had.later;
        split = had.split;
        none = rw state_from-append had.none;
      }
