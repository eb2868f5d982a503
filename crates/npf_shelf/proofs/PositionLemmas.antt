-- What stands before the place that `position` finds.
use Rattle.std.{proofs.Common.{◌≡◌, ◌≤◌, ℕ, Bool, List, Some, None, length, take, sym, ap, arith}, specs.List.{position, position_or_len, before_first}}
use Rattle.std.proofs.lemmas.{Bool.ltb-false, List.{take_all, Quantifiers.position-Some, Sums.position_or_len_is}}
use Rattle.npf_shelf.proofs.BoolLemmas.{cond-some_none}

pub position-some_or_len : (p : ℕ → Bool) (xs : List ℕ) (at : ℕ) → position p xs ≡ Some at → position_or_len p xs ≡ at
position-some_or_len p xs at found =
    let is = position-Some p xs at 0 found in
    position_or_len_is p xs at 0 (omega (arith, is.0)) is.2 (λ _. is.1)

pub position-some_before : (p : ℕ → Bool) (xs : List ℕ) (at : ℕ) → position p xs ≡ Some at → take at xs ≡ before_first p xs
position-some_before p xs at found = ap (λ n. take n xs) (sym (position-some_or_len p xs at found))

pub position-none_or_len : (p : ℕ → Bool) (xs : List ℕ) → position p xs ≡ None → length xs ≤ position_or_len p xs
position-none_or_len p xs none = ltb-false _ _ (cond-some_none _ _ none)

-- where it finds none, all stands before
pub position-none_before : (p : ℕ → Bool) (xs : List ℕ) → position p xs ≡ None → xs ≡ before_first p xs
position-none_before p xs none = sym (take_all (position_or_len p xs) xs (position-none_or_len p xs none))
