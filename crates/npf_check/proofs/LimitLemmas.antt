-- The item at a place of two lists, one behind the other.
use Rattle.std.proofs.Common.{◌≡◌, ◌+◌, ℕ, zero, suc, Some, List, [], ◌∷◌, ◌++◌, length, slice_get, ap, arith, ◌≤◌, ◌<◌, ◌⊎◌, None, get_or, sym, ◌∙◌, inl, inr}
use Rattle.npf_types.specs.declared.span.Span.{Span}
use Rattle.npf_faults.specs.declared.fault.Excess.{Excess}
use Rattle.npf_check.specs.Limit.{past_limit}

pub get-front : {X : Type 0} (xs ys : List X) (n : ℕ) (x : X) → slice_get xs n ≡ Some x → slice_get (xs ++ ys) n ≡ Some x
get-front [] ys n x h = cc
get-front (y ∷ xs) ys zero x h = h
get-front (y ∷ xs) ys (suc n) x h = get-front xs ys n x h

pub get-behind : {X : Type 0} (xs ys : List X) (m n : ℕ) → m ≡ length xs + n → slice_get (xs ++ ys) m ≡ slice_get ys n
get-behind [] ys m n h = ap (slice_get ys) (omega (arith, h))
get-behind (x ∷ xs) ys zero n h = absurd (omega (arith, h))
get-behind (x ∷ xs) ys (suc m) n h = get-behind xs ys m n (omega (arith, h))

pub within_by : (quantity : Excess) (most : ℕ) (spans : List Span) → past_limit quantity most (slice_get spans most) ≡ []
    → ((span : Span) × (most < length spans) × (slice_get spans most ≡ Some span) × (get_or spans most span ≡ span)) ⊎ ((length spans ≤ most) × (slice_get spans most ≡ None))
    → length spans ≤ most
within_by quantity most spans none (inl inside) = absurd (let past : past_limit quantity most (Some inside.0) ≡ [] = ap (past_limit quantity most) (sym inside.2) ∙ none in cc)
within_by quantity most spans none (inr outside) = outside.0
