-- The text of an entry of a table: an address, or an address, a slash and a length (RFC 4632 section 3.1, RFC 4291
-- section 2.3). Of a block's address the bits past the length are cleared.
use Rattle.std.specs.Prelude.{◌≡◌, ◌==◌, ◌+◌, ◌<◌, ◌^◌, ℕ, Bool, List, take, drop, length, position, slice_index, MatchOption}
use Rattle.std.specs.Str.Parse.{IsNumeral, digits_value}
use Rattle.npf_types.specs.declared.address.Addr.{Addr}
use Rattle.npf_types.specs.declared.prefix.Prefix.{Prefix}
use Rattle.npf_types.specs.Address.{width, cleared}
use Rattle.npf_types.specs.AddressText.{IsAddressText}

abbrev pub is_slash : ℕ → Bool
is_slash byte = byte == 47

-- a decimal number, without a leading zero unless it is 0
pub record IsLengthText (digits : List ℕ) (len : ℕ) : Type 0 where
  pub numeral : IsNumeral 10 digits
  pub value : digits_value 10 digits ≡ len
  pub no_leading_zero : slice_index digits 0 ≡ 48 → length digits ≡ 1

-- a lone address, which is the block of that address alone
pub record IsHostText (text : List ℕ) (prefix : Prefix) : Type 0 where
  pub address : IsAddressText text prefix.addr
  pub whole : prefix.len ≡ width prefix.addr

-- an address and a length
pub record IsBlockText (address digits : List ℕ) (prefix : Prefix) : Type 0 where
  pub written : Addr
  pub spelled : IsAddressText address written
  pub long : IsLengthText digits prefix.len
  pub masked : prefix.addr ≡ cleared written prefix.len

-- the text writes the prefix: with a slash, what stands before the first one is the address and what stands behind it
-- the length
abbrev pub IsPrefixText : List ℕ → Prefix → Type 0
IsPrefixText text prefix =
    MatchOption (position is_slash text) (IsHostText text prefix) (λ at. IsBlockText (take at text) (drop (at + 1) text) prefix)

-- decimal digits whose number fits in a byte
pub record IsByteNumber (digits : List ℕ) (number : ℕ) : Type 0 where
  pub numeral : IsNumeral 10 digits
  pub value : digits_value 10 digits ≡ number
  pub fits : number < 2 ^ 8

-- a length that fits in a byte, as that of each prefix does
pub record IsByteLengthText (digits : List ℕ) (len : ℕ) : Type 0 where
  pub long : IsLengthText digits len
  pub fits : len < 2 ^ 8
