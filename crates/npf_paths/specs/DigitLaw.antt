-- What holds of the digits of every key and hash.
use Rattle.std.specs.Prelude.{◌≡◌, ◌≢◌, ◌<◌, ◌≤◌, ◌^◌, ℕ, length, slice_index}
use Rattle.npf_types.specs.declared.key.Key.{Key}
use Rattle.npf_paths.specs.Digits.{digit_of, PartsAt}

-- a key is five words of 64 bits, as a program's is by its type
pub record FitsWords (key : Key) : Type 0 where
  pub five : length key.0 ≡ 5
  pub word : (place : ℕ) → slice_index key.0 place < 2 ^ 64

-- keys with the same digits from level 15 on are one, whatever was hashed
abbrev pub HalfBytesTellKeys : Type 0
HalfBytesTellKeys =
    (hash other_hash : ℕ) (key other : Key) → FitsWords key → FitsWords other →
    ((level : ℕ) → 15 ≤ level → level < 95 → digit_of hash key level ≡ digit_of other_hash other level) → key ≡ other

-- so keys that differ part at some level, whatever their hashes
abbrev pub KeysPart : Type 0
KeysPart =
    (hash other_hash : ℕ) (key other : Key) → FitsWords key → FitsWords other → key ≢ other →
    (level : ℕ) × PartsAt hash key other_hash other level

-- the root's digits are below 64
abbrev pub RootDigitsFit : Type 0
RootDigitsFit = (hash : ℕ) (key : Key) → digit_of hash key 0 < 64

-- the digits of each further level are below 16
abbrev pub NodeDigitsFit : Type 0
NodeDigitsFit = (hash level : ℕ) (key : Key) → 1 ≤ level → digit_of hash key level < 16
