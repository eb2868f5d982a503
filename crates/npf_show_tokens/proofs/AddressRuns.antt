-- An address as it is spelled is one run, and no number.
use Rattle.std.proofs.Common.{◌≡◌, ℕ, suc, ◌-◌, ◌<◌, ◌^◌, ◌==◌, Bool, true, false, List, [], ◌∷◌, ◌++◌, length, append-nil}
use Rattle.std.proofs.{Common.{flat_map, slice_index, decimal, codes, refl, sym, ap, subst, ◌∙◌, arith}, lemmas.{Bool.Decides.nat_tests, Grind.common_steps}}
use Rattle.std.{proofs.lemmas.Fmt.decimal_nonempty, specs.{Char.{digit_value, is_ascii_alphanumeric, is_ascii_digit}, List.list_all, Net.Grammar.IsDotted}}
use Rattle.std.{specs.{Net.Text.{dotted_text, hex, groups_text}, Str.Parse.AllDigits}, proofs.{Math.Bool.and-false, lemmas.Bool.and_from}}
use Rattle.npf_lexer.specs.{ByteClass.is_run_byte, Run.{is_decimal, is_no_colon}}
use Rattle.npf_show_tokens.proofs.Addresses.{AreSmall, hex_group}
use Rattle.npf_show_tokens.proofs.Digits.{all_join, all_weaker, one_lacks, no_colon_last, decimal_all, digit_in_run, digit_no_colon, digit_alphanumeric}
use Rattle.npf_show_tokens.proofs.NoAddress.{dotted_parts, dotted_first, first_left}

-- what a run needs to be an address
pub record IsAddressRun (text : List ℕ) : Type 0 where
  pub some : 0 < length text
  pub first : is_ascii_alphanumeric (slice_index text 0) ≡ true
  pub within : list_all is_run_byte text ≡ true
  pub last : (slice_index text (length text - 1) == 58) ≡ false
  pub other : is_decimal text ≡ false

no_number : (text : List ℕ) → list_all is_ascii_digit text ≡ false → is_decimal text ≡ false
no_number text lacks = rw lacks (and-false (is_ascii_digit (slice_index text 0)))

-- four numbers with dots
dotted_all : (p : ℕ → Bool) (a b c d : ℕ) → a < 256 → b < 256 → c < 256 → d < 256
    → ((n : ℕ) → is_ascii_digit n ≡ true → p n ≡ true) → list_all p (46 ∷ []) ≡ true → list_all p (dotted_text a b c d) ≡ true
dotted_all p a b c d fa fb fc fd step dot =
    let number : (n : ℕ) → n < 256 → list_all p (decimal n) ≡ true = λ n small. all_weaker is_ascii_digit p step (decimal n) (decimal_all n (omega (arith, small))) in
    all_join p (decimal a ++ codes "." ++ decimal b ++ codes "." ++ decimal c ++ codes ".") (decimal d)
    (all_join p (decimal a ++ codes "." ++ decimal b ++ codes "." ++ decimal c) (codes ".")
    (all_join p (decimal a ++ codes "." ++ decimal b ++ codes ".") (decimal c)
    (all_join p (decimal a ++ codes "." ++ decimal b) (codes ".")
    (all_join p (decimal a ++ codes ".") (decimal b)
    (all_join p (decimal a) (codes ".") (number a fa) dot) (number b fb)) dot) (number c fc)) dot) (number d fd)

longer : (xs ys : List ℕ) → 0 < length xs → 0 < length (xs ++ ys)
longer [] ys some = absurd (omega (arith, some))
longer (x ∷ xs) ys some = omega arith

dotted_some : (a b c d : ℕ) → a < 256 → 0 < length (dotted_text a b c d)
dotted_some a b c d small =
    let some = decimal_nonempty a (omega (arith, small)) in
    subst (λ text. 0 < length text) (sym (dotted_parts a b c d)) (longer (decimal a) (46 ∷ (decimal b ++ 46 ∷ (decimal c ++ 46 ∷ decimal d))) some)

dotted_no_number : (a b c d : ℕ) → list_all is_ascii_digit (dotted_text a b c d) ≡ false
dotted_no_number a b c d =
    ap (list_all is_ascii_digit) (dotted_parts a b c d) ∙ one_lacks is_ascii_digit (decimal a) 46 (decimal b ++ 46 ∷ (decimal c ++ 46 ∷ decimal d)) refl

dotted_run : (a b c d : ℕ) → a < 256 → b < 256 → c < 256 → d < 256 → IsAddressRun (dotted_text a b c d)
dotted_run a b c d fa fb fc fd = record {
  some = dotted_some a b c d fa;
  first = digit_alphanumeric (slice_index (dotted_text a b c d) 0) (dotted_first a b c d fa);
  within = dotted_all is_run_byte a b c d fa fb fc fd digit_in_run refl;
  last = no_colon_last (dotted_text a b c d) (dotted_all is_no_colon a b c d fa fb fc fd digit_no_colon refl);
  other = no_number (dotted_text a b c d) (dotted_no_number a b c d);
}

pub dotted_is_run : (text octets : List ℕ) → IsDotted text octets → IsAddressRun text
dotted_is_run text octets is =
    subst IsAddressRun (sym is.spelled) (dotted_run is.a is.b is.c is.d is.fit.0 is.fit.1 is.fit.2 is.fit.3)

-- hexadecimal digits
hex_in_run : (b : ℕ) → digit_value b < 16 → is_run_byte b ≡ true
hex_in_run b is = grind (arith, nat_tests)

hex_no_colon : (b : ℕ) → digit_value b < 16 → is_no_colon b ≡ true
hex_no_colon b is = grind (arith, nat_tests)

hex_alphanumeric : (b : ℕ) → digit_value b < 16 → is_ascii_alphanumeric b ≡ true
hex_alphanumeric b is = grind (arith, nat_tests)

digits_all : (p : ℕ → Bool) → ((b : ℕ) → digit_value b < 16 → p b ≡ true) → (text : List ℕ) → AllDigits 16 text → list_all p text ≡ true
digits_all p step [] are = refl
digits_all p step (b ∷ bs) are = and_from (p b) (list_all p bs) (step b are.0) (digits_all p step bs are.1)

first_digit : (text : List ℕ) → 0 < length text → AllDigits 16 text → is_ascii_alphanumeric (slice_index text 0) ≡ true
first_digit [] some are = absurd (omega (arith, some))
first_digit (b ∷ bs) some are = hex_alphanumeric b are.0

groups_in_run : (segments : List ℕ) → AreSmall segments → list_all is_run_byte (flat_map (λ s. codes ":" ++ hex s) segments) ≡ true
groups_in_run [] small = refl
groups_in_run (s ∷ segments) small =
    all_join is_run_byte (58 ∷ hex s) (flat_map (λ t. codes ":" ++ hex t) segments)
    (digits_all is_run_byte hex_in_run (hex s) (hex_group s (small 0)).0.0.1) (groups_in_run segments (λ k. small (suc k)))

-- what a text ends in, where something stands there
abbrev EndsPlainly : List ℕ → Type 0
EndsPlainly text = (0 < length text) × ((slice_index text (length text - 1) == 58) ≡ false)

last_right : (xs ys : List ℕ) → 0 < length ys → slice_index (xs ++ ys) (length (xs ++ ys) - 1) ≡ slice_index ys (length ys - 1)
last_right xs ys some = grind (arith, common_steps)

ends_right : (xs ys : List ℕ) → EndsPlainly ys → EndsPlainly (xs ++ ys)
ends_right xs ys (some, plain) = (grind (arith, common_steps), ap (λ b. b == 58) (last_right xs ys some) ∙ plain)

hex_ends : (s : ℕ) → s < 2 ^ 16 → EndsPlainly (hex s)
hex_ends s small =
    let group = hex_group s small in
    (group.0.0.0, no_colon_last (hex s) (digits_all is_no_colon hex_no_colon (hex s) group.0.0.1))

groups_end : (s : ℕ) (segments : List ℕ) → AreSmall (s ∷ segments) → EndsPlainly (flat_map (λ t. codes ":" ++ hex t) (s ∷ segments))
groups_end s [] small = subst EndsPlainly (sym (append-nil (58 ∷ hex s))) (ends_right (58 ∷ []) (hex s) (hex_ends s (small 0)))
groups_end s (t ∷ segments) small =
    ends_right (58 ∷ hex s) (flat_map (λ u. codes ":" ++ hex u) (t ∷ segments)) (groups_end t segments (λ k. small (suc k)))

-- two groups at least
groups_are_run : (s t : ℕ) (segments : List ℕ) → AreSmall (s ∷ t ∷ segments) → IsAddressRun (groups_text (s ∷ t ∷ segments))
groups_are_run s t segments small =
    let group = hex_group s (small 0) in
    let behind = flat_map (λ u. codes ":" ++ hex u) (t ∷ segments) in
    let end = ends_right (hex s) behind (groups_end t segments (λ k. small (suc k))) in
    record {
      some = end.0;
      first = ap is_ascii_alphanumeric (first_left (hex s) behind group.0.0.0) ∙ first_digit (hex s) group.0.0.0 group.0.0.1;
      within = all_join is_run_byte (hex s) behind (digits_all is_run_byte hex_in_run (hex s) group.0.0.1) (groups_in_run (t ∷ segments) (λ k. small (suc k)));
      last = end.1;
      other = no_number (hex s ++ behind) (one_lacks is_ascii_digit (hex s) 58 (hex t ++ flat_map (λ u. codes ":" ++ hex u) segments) refl);
    }

pub eight_are_run : (segments : List ℕ) → AreSmall segments → length segments ≡ 8 → IsAddressRun (groups_text segments)
eight_are_run (s ∷ t ∷ segments) small eight = groups_are_run s t segments small
eight_are_run [] small eight = absurd (omega (arith, eight))
eight_are_run (s ∷ []) small eight = absurd (omega (arith, eight))
