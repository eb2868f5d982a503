-- A run of npf.conf(5): how far it goes, and what it is.
use Rattle.std.specs.Prelude.{◌≡◌, ℕ, ◌+◌, ◌-◌, ◌^◌, nat_lt, nat_le, Bool, not, ◌||◌, ◌&&◌, ◌==◌, if◌then◌else◌, ◌⊎◌, List, [], ◌∷◌, slice_index, MatchBool}
use Rattle.std.specs.Char.{is_ascii_alphabetic, is_ascii_alphanumeric, is_ascii_digit}
use Rattle.std.specs.List.{list_all}
use Rattle.std.specs.Str.Parse.{digits_value}
use Rattle.npf_types.specs.declared.address.Addr.{Addr}
use Rattle.npf_types.specs.AddressText.{IsAddressText}
use Rattle.npf_lexer.specs.declared.run.RunKind.{RunKind}
use Rattle.npf_lexer.specs.declared.run.RunKind.TheVariants.{Kind, TooLarge, Nothing}
use Rattle.npf_lexer.specs.declared.token.TokenKind.TheVariants as Token
use Rattle.npf_lexer.specs.ByteClass.{is_run_byte}

-- whether a run goes on with the first byte of what is left: `-` may stand in a run that begins with a letter, directly
-- before a letter or a digit
abbrev pub goes_on : Bool → List ℕ → Bool
goes_on lettered rest =
    is_run_byte (slice_index rest 0) || (lettered && slice_index rest 0 == 45 && is_ascii_alphanumeric (slice_index rest 1))

-- how many bytes of the longest run stand at the front
abbrev pub longest_run : Bool → List ℕ → ℕ
longest_run lettered [] = 0
longest_run lettered (b ∷ bs) = if goes_on lettered (b ∷ bs) then 1 + longest_run lettered bs else 0

-- whether so many bytes end in one `:` and not in `::`
abbrev pub ends_in_colon : ℕ → List ℕ → Bool
ends_in_colon n text = nat_le 1 n && slice_index text (n - 1) == 58 && not (nat_le 2 n && slice_index text (n - 2) == 58)

-- how many bytes the run has that begins here: a single `:` at its end is left as a sign
abbrev pub run_len : List ℕ → ℕ
run_len text =
    let n = longest_run (is_ascii_alphabetic (slice_index text 0)) text in
    if ends_in_colon n text then n - 1 else n

-- decimal digits, at least one
abbrev pub is_decimal : List ℕ → Bool
is_decimal run = is_ascii_digit (slice_index run 0) && list_all is_ascii_digit run

-- the number that digits write fits in 32 bits or is too large
abbrev pub number_run : List ℕ → RunKind
number_run run = if nat_lt (digits_value 10 run) (2 ^ 32) then Kind (Token.Number (digits_value 10 run)) else TooLarge

abbrev pub is_no_colon : ℕ → Bool
is_no_colon b = not (b == 58)

-- a letter first, and no `:`
abbrev pub is_word : List ℕ → Bool
is_word run = is_ascii_alphabetic (slice_index run 0) && list_all is_no_colon run

abbrev pub word_run : List ℕ → RunKind
word_run run = if is_word run then Kind (Token.Word run) else Nothing

-- an address, or else a word, or else nothing
abbrev pub IsAddressOrWord : List ℕ → RunKind → Type 0
IsAddressOrWord run is =
    ((address : Addr) × IsAddressText run address × (is ≡ Kind (Token.Address address)))
    ⊎ (((address : Addr) → ¬ IsAddressText run address) × (is ≡ word_run run))

-- what a run is: the first of a number, an address and a word that fits
abbrev pub ReadsRun : List ℕ → RunKind → Type 0
ReadsRun run is = MatchBool (is_decimal run) (is ≡ number_run run) (IsAddressOrWord run is)
