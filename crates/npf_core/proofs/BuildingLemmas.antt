-- What other seats, and entries that free nothing, leave alone.
use Rattle.std.proofs.{Common.{◌≡◌, ℕ, true, false, ◌==◌, [], ◌∷◌, Option, Some, refl, sym, ◌∙◌, ◌+◌}, lemmas.Bool.Decides.{Decides-eqb, not_from_Decides}}
use Rattle.npf_types.specs.declared.key.{Key.Key, Way.Way}
use Rattle.npf_shelf.proofs.ListLemmas.{filter-cons_nil}
use Rattle.npf_core.specs.declared.{act.Act.TheVariants.Free, conn_id.ConnId.ConnId, entry.Entry.Entry, found.Found.Found, stage.Stage.TheVariants.Building}
use Rattle.npf_core.specs.{BuildingLaw.{ClaimsBuild, StaysBuilding, IsGivenNone}, ClaimedLaw.StaysClaimed, History.{MayFollow, after, is_free}}
use Rattle.npf_core.specs.{Machine.{Machine, stage_of, HoldsNone}, Meaning.Meaning}
use Rattle.npf_core.proofs.HolderLemmas.{Passes, rests, gives, loses, passes, may_hold, claimed_by}
use Rattle.npf_core.proofs.LifeLemmas.{Life, stage_in, stage_of-is, Moves, keeps, claims, starts, steps, abandons, expires, frees as is_freed, entry_moves}
use Rattle.npf_core.proofs.EqualityLemmas.{is_id-Decides}

module _ {S A R : Type 0} (m : Meaning S A R) (slots : ℕ) where
  module _ (k : Machine S) (entry : Entry S A R) (seat : ℕ) (id : ConnId) (follows : MayFollow m slots k entry) (other : ¬ (entry.seat ≡ seat)) where
    still_building : (x y : Life S) → Moves m entry.seat entry.act entry.reply id x y → stage_in x ≡ Building seat → stage_in y ≡ Building seat
    still_building _ _ (keeps silent) e = e
    still_building _ _ (claims packet act reply) e = absurd cc
    still_building _ _ (starts packet init act answer) e = absurd (other cc)
    still_building _ _ (steps packet way arg flow n act reply) e = absurd cc
    still_building _ _ (abandons act answer) e = absurd (other cc)
    still_building _ _ (expires now flow n act answer due) e = absurd cc
    still_building _ _ (is_freed act answer) e = absurd cc

    -- an entry of another seat leaves a connection Building
    pub builds_by : stage_of k id ≡ Building seat → stage_of (after m k entry) id ≡ Building seat
    builds_by e = rw stage_of-is (still_building _ _ (entry_moves m slots k entry id follows) (sym (stage_of-is k id) ∙ e))

    still_none : stage_of k id ≡ Building seat → (way : Way) → HoldsNone k id way → (key : Key) (x y : Option Found) → Passes entry.act key x y →
        k.holder key ≡ x → ¬ (y ≡ Some (record { id = id; way = way }))
    still_none e way none key _ _ rests was now = none key (was ∙ now)
    still_none e way none key _ _ (gives given act) was now =
        let same : given ≡ record { id = id; way = way } = cc in
        let built = (may_hold m slots k entry.seat entry.act given.id key given.way act follows.allowed).built in
        let mine : stage_of k id ≡ Building entry.seat = rw same at built in
        other (cc (mine, e))
    still_none e way none key _ _ (loses lost act) was now = cc

    -- and gives it no key
    pub holds_none_by : stage_of k id ≡ Building seat → (way : Way) → HoldsNone k id way → HoldsNone (after m k entry) id way
    holds_none_by e way none key = still_none e way none key _ _ (passes entry.act key (k.holder key)) refl

  others : (entry : Entry S A R) (seat : ℕ) → (entry.seat == seat) ≡ false → ¬ (entry.seat ≡ seat)
  others entry seat e = not_from_Decides _ (Decides-eqb entry.seat seat) e

  -- the entries of other seats leave a connection Building
  pub builds_after : StaysBuilding m slots
  builds_after k [] seat id legal none e = e
  builds_after k (entry ∷ entries) seat id legal none e =
      let first = filter-cons_nil (λ (x : Entry S A R). x.seat == seat) entry entries none in
      builds_after (after m k entry) entries seat id legal.1 first.1 (builds_by k entry seat id legal.0 (others entry seat first.0) e)

  -- and give it no key
  pub holds_none_after : IsGivenNone m slots
  holds_none_after k [] seat id way legal none e h = h
  holds_none_after k (entry ∷ entries) seat id way legal none e h =
      let first = filter-cons_nil (λ (x : Entry S A R). x.seat == seat) entry entries none in
      let other = others entry seat first.0 in
      holds_none_after (after m k entry) entries seat id way legal.1 first.1 (builds_by k entry seat id legal.0 other e) (holds_none_by k entry seat id legal.0 other e way h)

  not_freed : (entry : Entry S A R) (id : ConnId) → is_free id entry.act ≡ false → ¬ (entry.act ≡ Free id)
  not_freed entry id e act =
      let frees : is_free id entry.act ≡ true = rw act ((is_id-Decides id id).1 refl) in cc

  -- entries that don't free a claimed identity leave it claimed
  pub claimed_after : StaysClaimed m slots
  claimed_after k [] id legal none h = h
  claimed_after k (entry ∷ entries) id legal none h =
      let first = filter-cons_nil (λ (x : Entry S A R). is_free id x.act) entry entries none in
      claimed_after (after m k entry) entries id legal.1 first.1 (claimed_by m slots k entry id legal.0 (not_freed entry id first.0) h)

-- what a claim of a slot gives is Building under the seat
pub claim_builds : {S A R : Type 0} (m : Meaning S A R) → ClaimsBuild m
claim_builds m k seat packet slot =
    let here : (slot == slot) ≡ true = (Decides-eqb slot slot).1 refl in
    let next : ((k.slot slot).inc + 1 == (k.slot slot).inc + 1) ≡ true = (Decides-eqb ((k.slot slot).inc + 1) ((k.slot slot).inc + 1)).1 refl in
    rw (here, next) refl
