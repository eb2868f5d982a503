-- The holder of a key, as places are looked at and changed.
use Rattle.std.proofs.Common.{◌≡◌, ◌≢◌, ℕ, zero, suc, ◌<◌, Bool, true, false, cond, List, [], ◌∷◌, length, set, Option, Some, None, refl, ap, sym, ◌∙◌, arith}
use Rattle.std.proofs.lemmas.List.{get_or-set_other}
use Rattle.npf_types.specs.declared.key.Key.{Key}
use Rattle.npf_shelf.proofs.OptionLemmas.{Some-injective}
use Rattle.npf_core.{specs.{declared.{found.Found.Found, hold.Holding.Holding}, Machine.is_key}, proofs.EqualityLemmas.is_key-Decides}
use Rattle.npf_oneturn_store.specs.Places.{standing, found_in, found_at, first_found, holder_among}

-- what stands there with the key, and is found
pub record Stands (x : Option Holding) (key : Key) (found : Found) : Type 0 where
  pub holding : Holding
  pub is : x ≡ Some holding
  pub keyed : holding.key ≡ key
  pub held : holding.found ≡ found

pub stands : (x : Option Holding) (key : Key) (found : Found) → found_in key x ≡ Some found → Stands x key found
stands None key found e = absurd cc
stands (Some holding) key found e = by_key (is_key holding.key key) refl e
  where
    by_key : (same : Bool) → is_key holding.key key ≡ same → cond same (Some holding.found) None ≡ Some found → Stands (Some holding) key found
    by_key true same f = record { holding = holding; is = refl; keyed = (is_key-Decides holding.key key).0 same; held = Some-injective _ _ f }
    by_key false same f = absurd cc

pub found_there : (holding : Holding) (key : Key) → holding.key ≡ key → found_in key (Some holding) ≡ Some holding.found
found_there holding key e = let same : is_key holding.key key ≡ true = (is_key-Decides holding.key key).1 e in rw same refl

pub found_elsewhere : (holding : Holding) (key : Key) → holding.key ≢ key → found_in key (Some holding) ≡ None
found_elsewhere holding key ne = by_key (is_key holding.key key) refl
  where
    by_key : (same : Bool) → is_key holding.key key ≡ same → cond same (Some holding.found) None ≡ None
    by_key true same = absurd (ne ((is_key-Decides holding.key key).0 same))
    by_key false same = refl

-- a place at which something stands is one of the list's
pub standing_within : (xs : List (Option Holding)) (place : ℕ) (holding : Holding) → standing xs place ≡ Some holding → place < length xs
standing_within [] place holding there = absurd cc
standing_within (x ∷ xs) zero holding there = omega arith
standing_within (x ∷ xs) (suc place) holding there = omega (arith, standing_within xs place holding there)

-- a holder stands at a place
pub record IsAt (xs : List (Option Holding)) (key : Key) (found : Found) : Type 0 where
  pub place : ℕ
  pub there : found_at xs key place ≡ Some found

pub holder_at : (xs : List (Option Holding)) (key : Key) (found : Found) → holder_among xs key ≡ Some found → IsAt xs key found
holder_at [] key found e = absurd cc
holder_at (x ∷ xs) key found e = by_head (found_in key x) refl e (λ f. holder_at xs key found f)
  where
    by_head : (head : Option Found) → found_in key x ≡ head → first_found head (holder_among xs key) ≡ Some found →
        (holder_among xs key ≡ Some found → IsAt xs key found) → IsAt (x ∷ xs) key found
    by_head (Some other) h f behind = record { place = 0; there = h ∙ f }
    by_head None h f behind = let rest = behind f in record { place = suc rest.place; there = rest.there }

-- without a holder no place has the key
pub holder_nowhere : (xs : List (Option Holding)) (key : Key) → holder_among xs key ≡ None → (place : ℕ) → found_at xs key place ≡ None
holder_nowhere [] key e place = refl
holder_nowhere (x ∷ xs) key e place = by_head (found_in key x) refl e (λ f q. holder_nowhere xs key f q) place
  where
    by_head : (head : Option Found) → found_in key x ≡ head → first_found head (holder_among xs key) ≡ None →
        (holder_among xs key ≡ None → (place : ℕ) → found_at xs key place ≡ None) → (place : ℕ) → found_at (x ∷ xs) key place ≡ None
    by_head (Some other) h f behind place = absurd cc
    by_head None h f behind zero = h
    by_head None h f behind (suc place) = behind f place

-- where no place has the key it has no holder
pub no_holder : (xs : List (Option Holding)) (key : Key) → ((place : ℕ) → place < length xs → found_at xs key place ≡ None) → holder_among xs key ≡ None
no_holder [] key none = refl
no_holder (x ∷ xs) key none = rw (none 0 (omega arith)) (no_holder xs key (λ place within. none (suc place) (omega (arith, within))))

-- a place has another key or none than before: a key that is neither has the same holder
pub holder_kept : (xs : List (Option Holding)) (place : ℕ) (y : Option Holding) (key : Key) → found_in key y ≡ None →
    found_at xs key place ≡ None → holder_among (set xs place y) key ≡ holder_among xs key
holder_kept [] place y key new old = refl
holder_kept (x ∷ xs) zero y key new old = ap (λ head. first_found head (holder_among xs key)) (new ∙ sym old)
holder_kept (x ∷ xs) (suc place) y key new old = ap (λ rest. first_found (found_in key x) rest) (holder_kept xs place y key new old)

-- a key without a holder is put at a place
pub holder_put : (xs : List (Option Holding)) (place : ℕ) (y : Option Holding) (key : Key) (found : Found) → place < length xs →
    holder_among xs key ≡ None → found_in key y ≡ Some found → holder_among (set xs place y) key ≡ Some found
holder_put [] place y key found within none new = absurd (omega (arith, within))
holder_put (x ∷ xs) zero y key found within none new = ap (λ head. first_found head (holder_among xs key)) new
holder_put (x ∷ xs) (suc place) y key found within none new = by_head (found_in key x) refl none (λ f. holder_put xs place y key found (omega (arith, within)) f new)
  where
    by_head : (head : Option Found) → found_in key x ≡ head → first_found head (holder_among xs key) ≡ None →
        (holder_among xs key ≡ None → holder_among (set xs place y) key ≡ Some found) →
        first_found (found_in key x) (holder_among (set xs place y) key) ≡ Some found
    by_head (Some other) h f behind = absurd cc
    by_head None h f behind = rw h (behind f)

-- a place has something else or nothing: what still stands, stands where it stood
pub still_there : (xs : List (Option Holding)) (place : ℕ) (y : Option Holding) (q : ℕ) (holding : Holding) → q ≢ place → standing (set xs place y) q ≡ Some holding → standing xs q ≡ Some holding
still_there xs place y q holding ne there = sym (get_or-set_other xs place q y None ne) ∙ there
