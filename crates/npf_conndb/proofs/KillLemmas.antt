-- What a kill leaves of a connection and its keys, and of others in its slot.
use Rattle.std.proofs.Common.{◌≡◌, ◌↔◌, ℕ, Bool, true, false, ◌==◌, eqb, cond, List, [], ◌∷◌, ◌++◌, refl, sym, ap, ◌∙◌, subst, append_assoc}
use Rattle.std.proofs.lemmas.Bool.Decides.{Decides-eqb}
use Rattle.npf_types.specs.declared.key.{Key.Key, Way.Way}
use Rattle.npf_core.specs.declared.{act.{Act.TheVariants.Kill, Why.{Why, TheVariants.{Abandoned, Expired}}}, conn_id.ConnId.ConnId, entry.Entry.Entry}
use Rattle.npf_core.specs.{declared.{reply.Reply.TheVariants.Nothing, stage.Stage.{Stage, TheVariants.{Vacant, Building, Live, Dead}}}, Allowed.{Allows, IsDue}}
use Rattle.npf_core.specs.{History.{Legal, LegalFrom, MayFollow, state_of, state_from, after}, Machine.{Machine, opening, stage_of, Holds, IsAlive, IsClaimed}}
use Rattle.npf_core.{specs.{Meaning.Meaning, NextState.after_act}, proofs.BuildingLemmas.builds_after}
use Rattle.npf_core.proofs.{HistoryLemmas.{LegalFrom-front, LegalFrom-rest, MayFollow-split, state_from-append, state_of-append}, KeyLemmas.stays_holder}
use Rattle.npf_core.proofs.LifeLemmas.{IsClaimed-last}
use Rattle.npf_connections.{specs.{Entries.entry_of, Expiring.WasNotDue, Pass.Pass}, proofs.AddLemmas.AddsLast}
use Rattle.npf_conndb.proofs.KeyLemmas.{built_back}

-- the last connection of a slot is Dead once it is killed
kills_last : {S A R : Type 0} (m : Meaning S A R) (k : Machine S) (seat : ℕ) (id : ConnId) (why : Why) → (k.slot id.slot).inc ≡ id.inc → stage_of (after_act m k seat (Kill id why)) id ≡ Dead
kills_last m k seat id why last =
    let here : (id.slot == id.slot) ≡ true = (Decides-eqb id.slot id.slot).1 refl in
    let inc : ((k.slot id.slot).inc == id.inc) ≡ true = (Decides-eqb (k.slot id.slot).inc id.inc).1 last in
    rw (here, inc) refl

-- who may be killed is claimed
may_kill : {S A R : Type 0} (m : Meaning S A R) (slots : ℕ) (k : Machine S) (seat : ℕ) (id : ConnId) (why : Why) → Allows m slots k seat (Kill id why) → IsClaimed (stage_of k id)
may_kill m slots k seat id Abandoned built = rw built tt
may_kill {S} m slots k seat id (Expired time) due = by_stage (stage_of k id) due
  where
    by_stage : (x : Stage S) → IsDue m time x → IsClaimed x
    by_stage Vacant due = due
    by_stage (Building other) due = absurd due
    by_stage (Live flow n) due = tt
    by_stage Dead due = absurd due

module _ {S A R : Type 0} (m : Meaning S A R) (slots : ℕ) (old : Pass (Entry S A R)) (new : List (Entry S A R)) (id : ConnId)
    (why : Why) (legal : Legal m slots new) (last : AddsLast old new (entry_of old (Kill id why) Nothing)) where
  abbrev entry : Entry S A R
  entry = entry_of old (Kill id why) Nothing

  abbrev before : List (Entry S A R)
  before = old.history ++ last.init

  abbrev k : Machine S
  k = state_of m before

  goes_on : new ≡ before ++ entry ∷ []
  goes_on = last.goes_on ∙ sym (append_assoc old.history last.init (entry ∷ []))

  follows : MayFollow m slots k entry
  follows = MayFollow-split m slots before [] entry (subst (Legal m slots) goes_on legal)

  state : state_of m new ≡ after m k entry
  state = ap (state_of m) goes_on ∙ state_of-append m before entry

  is_last : (k.slot id.slot).inc ≡ id.inc
  is_last = IsClaimed-last (k.slot id.slot) id.inc (may_kill m slots k old.number id why follows.allowed)

  -- the connection is Dead
  pub killed_dead : stage_of (state_of m new) id ≡ Dead
  killed_dead = ap (λ (x : Machine S). stage_of x id) state ∙ kills_last m k old.number id why is_last

  -- just before the kill another of its slot wasn't due
  pub other_idle : (time : ℕ) (other : ConnId) → other.slot ≡ id.slot → ¬ (other ≡ id) → WasNotDue m old.history new other time
  other_idle time other there apart = record {
    point = before;
    begins = record { rest = last.init; goes_on = refl };
    goes_on = record { rest = entry ∷ []; goes_on = goes_on };
    idle = λ due. vacant (subst (IsDue m time) (by_inc (eqb (k.slot other.slot).inc other.inc) refl) due);
  }
    where
      vacant : IsDue m time Vacant → ⊥
      vacant due = due

      by_inc : (same : Bool) → eqb (k.slot other.slot).inc other.inc ≡ same → stage_of k other ≡ Vacant
      by_inc true e = absurd (apart (λ i. record { slot = there i; inc = (sym ((Decides-eqb (k.slot other.slot).inc other.inc).0 e) ∙ (ap (λ slot. (k.slot slot).inc) there ∙ is_last)) i }))
      by_inc false e = ap (λ b. cond b (k.slot other.slot).stage Vacant) e

  -- and a connection that its own pass killed while it was Building holds the keys that it held before
  module _ (built : stage_of (state_of m old.history) id ≡ Building old.number) where
    rest_legal : LegalFrom m slots (state_of m old.history) (last.init ++ entry ∷ [])
    rest_legal = LegalFrom-rest m slots opening old.history (last.init ++ entry ∷ []) (subst (Legal m slots) last.goes_on legal)

    front : LegalFrom m slots (state_of m old.history) last.init
    front = LegalFrom-front m slots (state_of m old.history) last.init (entry ∷ []) rest_legal

    still : stage_of (state_from m (state_of m old.history) last.init) id ≡ Building old.number
    still = builds_after m slots (state_of m old.history) last.init old.number id front last.others built

    alive : (x : Machine S) → stage_of x id ≡ Building old.number → IsAlive (stage_of x id)
    alive x e = rw e tt

    on : k ≡ state_from m (state_of m old.history) last.init
    on = state_from-append m opening old.history last.init

    pub killed_keys : (way : Way) (key : Key) → Holds (state_of m old.history) id way key ↔ Holds (state_of m new) id way key
    killed_keys way key = (
      λ held. subst (λ (x : Machine S). Holds x id way key) (sym (state ∙ ap (λ (x : Machine S). after m x entry) on))
          (stays_holder m slots (state_of m old.history) last.init key (record { id = id; way = way }) front held
          (alive (state_of m old.history) built) (alive (state_from m (state_of m old.history) last.init) still)),
      λ held. built_back m slots (state_of m old.history) last.init old.number id way key front last.others built
          (subst (λ (x : Machine S). Holds x id way key) (state ∙ ap (λ (x : Machine S). after m x entry) on) held),
    )
