-- What words lack, and what hexadecimal digits are read to.
use Rattle.std.proofs.Common.{◌≡◌, ◌<◌, ◌≤◌, ◌^◌, ◌/◌, zero, suc, ◌==◌, ◌&&◌, ◌⊎◌, inl, inr, ℕ, Bool, true, false, not, Result, Ok, Err, MatchResult, Option, Some, None}
use Rattle.std.proofs.Common.{IfSome, List, [], ◌∷◌, ◌++◌, length, slice_index, refl, sym, ap, subst, ◌∙◌, true≢false, arith}
use Rattle.std.{specs.{Int.{Width, byte_at, byte_len, bytes_high_first, to_be_bytes}, Char.digit_value, Str.Parse.AllDigits}, proofs.Math.Nat.mod-lt}
use Rattle.npf_saved.{specs.Spelling.{bit_text, hex_text, or_dash}, proofs.CutLemmas.lacks}
use Rattle.std.{specs.{Fmt.decimal, List.{AllPass, list_all}}, proofs.lemmas.{Bool.{and_parts, eqb-true}, Fmt.decimal_is_IsNumeral}}
use Rattle.std.proofs.lemmas.List.Sums.{list_all-from_AllPass}
use Rattle.hex.specs.{declared.error.FromHexError.FromHexError, Hex.{IsBytes, decode_sized, is_hex_digit, encode_lower}}
use Rattle.hex.proofs.HexLemmas.{decode_of-encode_lower, decode_of-ok, decode_sized-encode_lower}

-- a byte that passes a test is no mark that doesn't
differs : (test : ℕ → Bool) (mark byte : ℕ) → test mark ≡ false → test byte ≡ true → not (byte == mark) ≡ true
differs test mark byte foreign passes = on (byte == mark) refl where
  on : (same : Bool) → (byte == mark) ≡ same → not same ≡ true
  on true is = absurd (true≢false (sym passes ∙ ap test (eqb-true byte mark is) ∙ foreign))
  on false is = refl

pub lacks_by : (test : ℕ → Bool) (mark : ℕ) → test mark ≡ false → (word : List ℕ) → list_all test word ≡ true → lacks mark word ≡ true
lacks_by test mark foreign [] all = refl
lacks_by test mark foreign (byte ∷ word) all =
    let both = and_parts (test byte) (list_all test word) all in
    rw (differs test mark byte foreign both.0, lacks_by test mark foreign word both.1) refl

-- hexadecimal digits lack every mark that is none
pub hex_lacks : (mark : ℕ) (bytes : List ℕ) → IsBytes bytes → is_hex_digit mark ≡ false → lacks mark (encode_lower bytes) ≡ true
hex_lacks mark bytes are foreign =
    lacks_by is_hex_digit mark foreign (encode_lower bytes)
    (list_all-from_AllPass is_hex_digit (encode_lower bytes) (decode_of-ok (encode_lower bytes) bytes (decode_of-encode_lower bytes are)).1)

-- the bytes of a number are bytes
byte_at_small : (i n : ℕ) → byte_at i n < 256
byte_at_small zero n = mod-lt n (omega arith)
byte_at_small (suc i) n = mod-lt (n / 256 ^ suc i) (omega arith)

byte_before : (byte : ℕ) (bytes : List ℕ) → byte < 256 → IsBytes bytes → IsBytes (byte ∷ bytes)
byte_before byte bytes small are zero = small
byte_before byte bytes small are (suc i) = are i

pub are_bytes : (k n : ℕ) → IsBytes (bytes_high_first k n)
are_bytes zero n = λ i. omega arith
are_bytes (suc k) n = byte_before (byte_at k n) (bytes_high_first k n) (byte_at_small k n) (are_bytes k n)

-- and hexadecimal digits are read to the bytes that they write
pub hex_read : (word : List ℕ) (size : ℕ) (result : Result Unit FromHexError) (read bytes : List ℕ) → IsBytes bytes → length bytes ≡ size → word ≡ encode_lower bytes
    → MatchResult (decode_sized word size) (λ decoded. (result ≡ Ok tt) × (read ≡ decoded)) (λ e. result ≡ Err e) → read ≡ bytes
hex_read word size result read bytes are same is told =
    let sized : decode_sized word size ≡ Ok bytes = ap (λ text. decode_sized text size) is ∙ decode_sized-encode_lower bytes size same are in
    (subst (λ (decoded : Result (List ℕ) FromHexError). MatchResult decoded (λ bytes. (result ≡ Ok tt) × (read ≡ bytes)) (λ e. result ≡ Err e)) sized told).1

pub number_lacks : (width : Width) (mark n : ℕ) → is_hex_digit mark ≡ false → lacks mark (hex_text width n) ≡ true
number_lacks width mark n foreign = hex_lacks mark (to_be_bytes width n) (are_bytes (byte_len width) n) foreign

-- decimal digits lack every mark that is none
digits_lack : (mark : ℕ) → 10 ≤ digit_value mark → (digits : List ℕ) → AllDigits 10 digits → lacks mark digits ≡ true
digits_lack mark foreign [] all = refl
digits_lack mark foreign (digit ∷ digits) all = rw (on (digit == mark) refl, digits_lack mark foreign digits all.1) refl where
  on : (same : Bool) → (digit == mark) ≡ same → not (digit == mark) ≡ true
  on true is =
      let value : digit_value digit ≡ digit_value mark = ap digit_value (eqb-true digit mark is) in
      absurd (omega (arith, value, all.0, foreign))
  on false is = rw is refl

pub decimal_lacks : (mark n : ℕ) → n < 2 ^ 64 → 10 ≤ digit_value mark → lacks mark (decimal n) ≡ true
decimal_lacks mark n fits foreign = digits_lack mark foreign (decimal n) (decimal_is_IsNumeral n fits).0.1

-- and what is a dash or a number
pub or_dash_lacks : {X : Type 0} (Fits : X → Type 0) (text : X → List ℕ) (mark : ℕ) → not (45 == mark) ≡ true
    → ((x : X) → Fits x → lacks mark (text x) ≡ true) → (given : Option X) → IfSome given Fits → lacks mark (or_dash text given) ≡ true
or_dash_lacks Fits text mark dash each None _ = rw dash refl
or_dash_lacks Fits text mark dash each (Some x) fits = each x fits

pub bit_lacks : (mark : ℕ) → not (48 == mark) ≡ true → not (49 == mark) ≡ true → (bit : Bool) → lacks mark (bit_text bit) ≡ true
bit_lacks mark zero_differs one_differs true = rw one_differs refl
bit_lacks mark zero_differs one_differs false = rw zero_differs refl
