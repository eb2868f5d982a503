-- The digits of a key, from its hash and then from its own half-bytes.
use Rattle.std.specs.Prelude.{◌≡◌, ◌≢◌, ◌==◌, ◌<◌, ◌+◌, ◌-◌, ◌*◌, ◌/◌, ◌%◌, ◌^◌, ℕ, nat_lt, slice_index, if◌then◌else◌}
use Rattle.npf_types.specs.declared.key.Key.{Key}

-- a half-byte of a key, the highest of word 0 first, and 0 past the last
abbrev pub half_byte_of : Key → ℕ → ℕ
half_byte_of key place = slice_index key.0 (place / 16) / 2 ^ (4 * (15 - place % 16)) % 16

-- the four bits of a hash behind the root's six that a level from 1 to 14 takes, from the lowest
abbrev pub hash_digit_of : ℕ → ℕ → ℕ
hash_digit_of hash level = hash / 2 ^ (6 + 4 * (level - 1)) % 16

-- a key's digit at a level: the hash's lowest six bits at the root, four bits of it at levels 1 to 14, then the key's half-bytes
abbrev pub digit_of : ℕ → Key → ℕ → ℕ
digit_of hash key level =
    if level == 0 then hash % 64 else (if nat_lt level 15 then hash_digit_of hash level else half_byte_of key (level - 15))

-- two hashed keys have the same digits at each level below this one
abbrev pub SharesDigits : ℕ → Key → ℕ → Key → ℕ → Type 0
SharesDigits hash key other_hash other below =
    (level : ℕ) → level < below → digit_of hash key level ≡ digit_of other_hash other level

-- two hashed keys part at a level: it is the first at which their digits differ
pub record PartsAt (hash : ℕ) (key : Key) (other_hash : ℕ) (other : Key) (level : ℕ) : Type 0 where
  pub within : level < 95
  pub before : SharesDigits hash key other_hash other level
  pub here : digit_of hash key level ≢ digit_of other_hash other level
