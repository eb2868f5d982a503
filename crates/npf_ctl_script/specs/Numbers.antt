-- The numbers of a script, and its moments in seconds.
use Rattle.std.specs.Prelude.{◌≡◌, ◌==◌, ◌+◌, ◌-◌, ◌*◌, ◌^◌, ◌<◌, ◌≤◌, ℕ, Bool, List, take, drop, length, position, slice_index, MatchOption}
use Rattle.std.specs.Str.Parse.{IsNumeral, digits_value}

-- decimal digits whose number is below the bound
pub record IsNumeralBelow (bound : ℕ) (digits : List ℕ) (number : ℕ) : Type 0 where
  pub numeral : IsNumeral 10 digits
  pub value : digits_value 10 digits ≡ number
  pub fits : number < bound

-- the same without a leading zero, unless the number is 0
pub record IsNumberBelow (bound : ℕ) (digits : List ℕ) (number : ℕ) : Type 0 where
  pub numeral : IsNumeral 10 digits
  pub value : digits_value 10 digits ≡ number
  pub no_leading_zero : slice_index digits 0 ≡ 48 → length digits ≡ 1
  pub fits : number < bound

-- one to nine digits behind a point: so many nanoseconds
pub record IsFraction (digits : List ℕ) (nanoseconds : ℕ) : Type 0 where
  pub numeral : IsNumeral 10 digits
  pub short : length digits ≤ 9
  pub value : nanoseconds ≡ digits_value 10 digits * 10 ^ (9 - length digits)

-- seconds, fewer than 4,294,967,296, as nanoseconds
pub record IsWholeSeconds (digits : List ℕ) (time : ℕ) : Type 0 where
  pub seconds : ℕ
  pub whole : IsNumberBelow (2 ^ 32) digits seconds
  pub value : time ≡ seconds * 1000000000

-- seconds and a fraction
pub record IsPartedSeconds (digits fraction : List ℕ) (time : ℕ) : Type 0 where
  pub start : ℕ
  pub whole : IsWholeSeconds digits start
  pub nanoseconds : ℕ
  pub part : IsFraction fraction nanoseconds
  pub value : time ≡ start + nanoseconds

abbrev pub is_point : ℕ → Bool
is_point byte = byte == 46

-- the word writes this moment, in nanoseconds: with a point, the seconds stand before it and the fraction behind
abbrev pub IsSeconds : List ℕ → ℕ → Type 0
IsSeconds word time =
    MatchOption (position is_point word) (IsWholeSeconds word time) (λ at. IsPartedSeconds (take at word) (drop (at + 1) word) time)
