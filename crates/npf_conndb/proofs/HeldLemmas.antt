-- After a legal history a connection holds a key of a way or holds none.
use Rattle.std.proofs.Common.{◌≡◌, ◌⊎◌, ℕ, Bool, true, false, List, [], ◌∷◌, Option, Some, None, refl, sym, ap, ◌∙◌, subst, inl, inr}
use Rattle.std.proofs.lemmas.Bool.Decides.{not_from_Decides}
use Rattle.npf_types.specs.declared.key.{Key.Key, Way.Way}
use Rattle.npf_core.specs.declared.{act.Act.{Act, TheVariants.{Claim, Look, Hold, Start, Step, Kill, Unhold, Free}}, conn_id.ConnId.ConnId, entry.Entry.Entry}
use Rattle.npf_core.specs.{declared.found.Found.Found, History.{after, state_of, state_from}, Machine.{Machine, opening, HoldsNone, HoldsSome}, Meaning.Meaning}
use Rattle.npf_core.{specs.NextState.{is_found, after_act}, proofs.EqualityLemmas.{is_found-Decides, is_key-Decides}}
use Rattle.npf_core.proofs.HolderLemmas.{Passes, rests, gives, loses, passes}
use Rattle.npf_conndb.proofs.KeyLemmas.{gives_up_none}

-- two holds that are one ask for one key, as one connection's key of one way
same_key : {S A : Type 0} (act : Act S A) (id other : ConnId) (key its : Key) (way w : Way) → act ≡ Hold other key w → act ≡ Hold id its way → its ≡ key
same_key act id other key its way w was is = (let both : Hold other key w ≡ Hold id its way = sym was ∙ is in cc)

abbrev found_as : ConnId → Way → Found
found_as id way = record { id = id; way = way }

same_found : {S A : Type 0} (act : Act S A) (id other : ConnId) (key its : Key) (way w : Way) → act ≡ Hold other key w → act ≡ Hold id its way → found_as other w ≡ found_as id way
same_found act id other key its way w was is =
    let both : Hold other key w ≡ Hold id its way = sym was ∙ is in
    let ids : other ≡ id = cc in
    let ways : w ≡ way = cc in
    λ i. record { id = ids i; way = ways i }

module _ {S A R : Type 0} (m : Meaning S A R) (k : Machine S) (seat : ℕ) (id : ConnId) (way : Way) where
  abbrev own : Found
  own = record { id = id; way = way }

  abbrev Decided : Machine S → Type 0
  Decided x = HoldsSome x id way ⊎ HoldsNone x id way

  abbrev next : Act S A → Machine S
  next act = after_act m k seat act

  -- an act that gives it no key leaves it with none
  none_still : (act : Act S A) → HoldsNone k id way → ((key : Key) → act ≡ Hold id key way → k.holder key ≡ None → ⊥) → HoldsNone (next act) id way
  none_still act none ungiven key = by_pass _ _ (passes act key (k.holder key)) refl
    where
      by_pass : (x y : Option Found) → Passes act key x y → k.holder key ≡ x → ¬ (y ≡ Some own)
      by_pass _ _ rests was now = none key (was ∙ now)
      by_pass _ _ (gives given is) was now = (let same : given ≡ own = cc in ungiven key (is ∙ ap (λ (f : Found). Hold f.id key f.way) same) was)
      by_pass _ _ (loses lost is) was now = cc

  from_none : (act : Act S A) → HoldsNone k id way → Decided (next act)
  from_none (Hold other key w) none = by_test (is_found (record { id = other; way = w }) own) refl (k.holder key) refl
    where
      by_test : (mine : Bool) → is_found (record { id = other; way = w }) own ≡ mine → (x : Option Found) → k.holder key ≡ x → Decided (next (Hold other key w))
      by_test true t None free =
          let same : record { id = other; way = w } ≡ own = (is_found-Decides (record { id = other; way = w }) own).0 t in
          let this = (is_key-Decides key key).1 refl in
          let gets : (next (Hold other key w)).holder key ≡ Some (record { id = other; way = w }) = rw (this, free) refl in
          inl (key, gets ∙ ap (λ (f : Found). Some f) same)
      by_test true t (Some holder) held = inr (none_still (Hold other key w) none (λ its is free. (let here : k.holder key ≡ None =
          subst (λ (x : Key). k.holder x ≡ None) (same_key (Hold other key w) id other key its way w refl is) free in let both = sym held ∙ here in cc)))
      by_test false t x is = inr
          (none_still (Hold other key w) none
          (λ its acts free. not_from_Decides _ (is_found-Decides (record { id = other; way = w }) own) t (same_found (Hold other key w) id other key its way w refl acts)))
  from_none (Claim packet slot) none = inr (none_still (Claim packet slot) none (λ key is free. cc))
  from_none (Look packet key) none = inr (none_still (Look packet key) none (λ its is free. cc))
  from_none (Start other packet init) none = inr (none_still (Start other packet init) none (λ key is free. cc))
  from_none (Step packet other w arg) none = inr (none_still (Step packet other w arg) none (λ key is free. cc))
  from_none (Kill other why) none = inr (none_still (Kill other why) none (λ key is free. cc))
  from_none (Unhold other w) none = inr (none_still (Unhold other w) none (λ key is free. cc))
  from_none (Free other) none = inr (none_still (Free other) none (λ key is free. cc))

  from_some : (act : Act S A) → HoldsSome k id way → Decided (next act)
  from_some act some = by_pass _ _ (passes act some.0 (k.holder some.0)) some.1 refl
    where
      gone : act ≡ Unhold id way → HoldsNone (next act) id way
      gone is key = subst (λ (a : Act S A). ¬ ((next a).holder key ≡ Some own)) (sym is) (gives_up_none id way (k.holder key))

      by_pass : (x y : Option Found) → Passes act some.0 x y → x ≡ Some own → (next act).holder some.0 ≡ y → Decided (next act)
      by_pass _ _ rests was is = inl (some.0, is ∙ was)
      by_pass _ _ (gives given acts) was is = absurd cc
      by_pass _ _ (loses lost acts) was is = (let same : lost ≡ own = cc in inr (gone (acts ∙ ap (λ (f : Found). Unhold f.id f.way) same)))

  decided_on : (act : Act S A) → Decided k → Decided (next act)
  decided_on act (inl some) = from_some act some
  decided_on act (inr none) = from_none act none

decided_from : {S A R : Type 0} (m : Meaning S A R) (k : Machine S) (entries : List (Entry S A R)) (id : ConnId) (way : Way) →
    HoldsSome k id way ⊎ HoldsNone k id way → HoldsSome (state_from m k entries) id way ⊎ HoldsNone (state_from m k entries) id way
decided_from m k [] id way so = so
decided_from m k (entry ∷ entries) id way so = decided_from m (after m k entry) entries id way (decided_on m k entry.seat id way entry.act so)

pub some_or_none : {S A R : Type 0} (m : Meaning S A R) (history : List (Entry S A R)) (id : ConnId) (way : Way) → HoldsSome (state_of m history) id way ⊎ HoldsNone (state_of m history) id way
some_or_none m history id way = decided_from m opening history id way (inr (λ key e. absurd cc))
