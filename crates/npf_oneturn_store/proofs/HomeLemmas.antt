-- Where a holder's key stands, and what a look at places tells.
use Rattle.std.proofs.Common.{◌≡◌, ◌≢◌, ℕ, ◌+◌, ◌*◌, ◌<◌, Bool, true, false, List, length, get_or, set, Option, Some, None, refl, ap, sym, ◌∙◌, ⊎_elim}
use Rattle.std.proofs.lemmas.{Bool.cases_eq, List.get_or-set_same}
use Rattle.npf_types.specs.declared.key.Key.{Key}
use Rattle.npf_core.{specs.{declared.{found.Found.Found, hold.Holding.Holding}, Machine.is_key}, proofs.EqualityLemmas.{is_key-Decides, is_found-Decides}}
use Rattle.npf_core.specs.NextState.{given_up, is_found}
use Rattle.npf_oneturn_store.specs.{Hash.bucket_of, Places.{standing, found_in, found_at, holder_among, key_place, AreKept}}
use Rattle.npf_oneturn_store.proofs.HolderLemmas.{Stands, stands, found_there, found_elsewhere, holder_at, holder_nowhere, no_holder, holder_kept, still_there}
use Rattle.npf_oneturn_store.proofs.GivenUpLemmas.{not_given_up}

pub some_holding : (a b : Holding) → Some a ≡ Some b → a ≡ b
some_holding a b e = cc

-- a flag that was read
pub flag_read : (flags : List Bool) (bucket : ℕ) (flag : Bool) → flag ≡ get_or flags bucket flag → flag ≡ false → get_or flags bucket false ≡ false
flag_read flags bucket flag read off = ap (λ d. get_or flags bucket d) (sym off) ∙ (sym read ∙ off)

module _ (buckets : ℕ) (xs : List (Option Holding)) (cells : List ℕ) (spilled : List Bool) (kept : AreKept buckets xs cells spilled) where
  -- what stands at a place is what its key's holder tells
  pub holder_here : (place : ℕ) (holding : Holding) → standing xs place ≡ Some holding → holder_among xs holding.key ≡ Some holding.found
  holder_here place holding there = by_holder (holder_among xs holding.key) refl
    where
      here : found_at xs holding.key place ≡ Some holding.found
      here = ap (λ x. found_in holding.key x) there ∙ found_there holding holding.key refl

      by_holder : (holder : Option Found) → holder_among xs holding.key ≡ holder → holder ≡ Some holding.found
      by_holder None e = sym (holder_nowhere xs holding.key e place) ∙ here
      by_holder (Some found) e =
          let at = holder_at xs holding.key found e in
          let s = stands (standing xs at.place) holding.key found at.there in
          let same : at.place ≡ place = kept.once at.place place s.holding holding s.is there s.keyed in
          sym at.there ∙ (ap (λ q. found_at xs holding.key q) same ∙ here)

  -- so does a look at one place
  pub holder_found : (place : ℕ) (key : Key) (found : Found) → found_at xs key place ≡ Some found → holder_among xs key ≡ Some found
  holder_found place key found there =
      let s = stands (standing xs place) key found there in
      ap (λ k. holder_among xs k) (sym s.keyed) ∙ (holder_here place s.holding s.is ∙ ap (λ f. Some f) s.held)

  -- a holder's key stands at its place
  pub held_home : (key : Key) (found : Found) → holder_among xs key ≡ Some found → Stands (standing xs (key_place found)) key found
  held_home key found e =
      let at = holder_at xs key found e in
      let s = stands (standing xs at.place) key found at.there in
      let home : key_place found ≡ at.place = ap key_place (sym s.held) ∙ kept.home at.place s.holding s.is in
      record { holding = s.holding; is = ap (λ q. standing xs q) home ∙ s.is; keyed = s.keyed; held = s.held }

  -- where what stands at its place isn't its, it holds no key
  pub holds_nothing : (found : Found) → ((holding : Holding) → standing xs (key_place found) ≡ Some holding → holding.found ≢ found) →
      (key : Key) → holder_among xs key ≢ Some found
  holds_nothing found none key held = let home = held_home key found held in none home.holding home.is home.held

  -- a key of a bucket that isn't spilled has no holder where no cell names its place
  pub unnamed_nowhere : (key : Key) → ((i : ℕ) → i < 16 → found_at xs key (get_or cells (bucket_of buckets key * 16 + i) 0) ≡ None) →
      get_or spilled (bucket_of buckets key) false ≡ false → holder_among xs key ≡ None
  unnamed_nowhere key none dry = by_holder (holder_among xs key) refl
    where
      by_holder : (holder : Option Found) → holder_among xs key ≡ holder → holder ≡ None
      by_holder None e = refl
      by_holder (Some found) e =
          let at = holder_at xs key found e in
          let s = stands (standing xs at.place) key found at.there in
          absurd (kept.named at.place s.holding s.is (ap (λ k. get_or spilled (bucket_of buckets k) false) s.keyed ∙ dry) (λ i small names.
          let cell : get_or cells (bucket_of buckets key * 16 + i) 0 ≡ at.place = ap (λ k. get_or cells (bucket_of buckets k * 16 + i) 0) (sym s.keyed) ∙ names in
          let some : found_at xs key (get_or cells (bucket_of buckets key * 16 + i) 0) ≡ Some found = ap (λ q. found_at xs key q) cell ∙ at.there in
          let no = none i small in
          cc))

  -- without what stands at its place, each key has the holder that it had, but what was given up
  pub holder_cleared : (found : Found) (holding : Holding) → standing xs (key_place found) ≡ Some holding → holding.found ≡ found → key_place found < length xs →
      (key : Key) → holder_among (set xs (key_place found) None) key ≡ given_up (holder_among xs key) found
  holder_cleared found holding there own within key = by_key (is_key holding.key key) refl
    where
      gone : holding.key ≡ key → (q : ℕ) → found_at (set xs (key_place found) None) key q ≡ None
      gone same q = by_found (found_at (set xs (key_place found) None) key q) refl
        where
          by_found : (o : Option Found) → found_at (set xs (key_place found) None) key q ≡ o → o ≡ None
          by_found None e = refl
          by_found (Some g) e =
              let s = stands (standing (set xs (key_place found) None) q) key g e in
              ⊎_elim
              (λ (f : q ≡ key_place found).
              let none : standing (set xs (key_place found) None) q ≡ None = ap (λ r. standing (set xs (key_place found) None) r) f ∙ get_or-set_same xs (key_place found) None None within in
              let is = s.is in
              absurd cc)
              (λ (ne : q ≢ key_place found).
              absurd (ne (kept.once q (key_place found) s.holding holding (still_there xs (key_place found) None q s.holding ne s.is) there (s.keyed ∙ sym same))))
              (cases_eq q (key_place found))

      by_key : (same : Bool) → is_key holding.key key ≡ same → holder_among (set xs (key_place found) None) key ≡ given_up (holder_among xs key) found
      by_key true e =
          let same : holding.key ≡ key = (is_key-Decides holding.key key).0 e in
          let held : holder_among xs key ≡ Some found = ap (λ k. holder_among xs k) (sym same) ∙ (holder_here (key_place found) holding there ∙ ap (λ f. Some f) own) in
          let own_found : is_found found found ≡ true = (is_found-Decides found found).1 refl in
          no_holder (set xs (key_place found) None) key (λ q within. gone same q) ∙ sym (rw (held, own_found) refl)
      by_key false e =
          let apart : holding.key ≢ key = λ same. let yes : is_key holding.key key ≡ true = (is_key-Decides holding.key key).1 same in cc in
          let elsewhere : found_at xs key (key_place found) ≡ None = ap (λ x. found_in key x) there ∙ found_elsewhere holding key apart in
          let other : holder_among xs key ≢ Some found = λ held.
          let s = held_home key found held in
          apart (ap (λ (y : Holding). y.key) (some_holding holding s.holding (sym there ∙ s.is)) ∙ s.keyed) in
          holder_kept xs (key_place found) None key refl elsewhere ∙ sym (not_given_up (holder_among xs key) found other)
