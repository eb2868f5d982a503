-- A word is no address: one of IPv4 begins with a digit, and one of IPv6 has a colon.
use Rattle.std.proofs.Common.{◌≡◌, ℕ, ◌<◌, ◌^◌, inl, inr, true, false, List, [], ◌∷◌, ◌++◌, length, slice_index, decimal, codes, refl, sym, ap, ◌∙◌, arith, append_assoc}
use Rattle.std.{proofs.lemmas.Fmt.decimal_nonempty, specs.{Char.{is_ascii_alphabetic, is_ascii_digit}, List.list_all, declared.net.ip_addr.IpAddr.IpAddr}}
use Rattle.std.specs.declared.net.ip_addr.IpAddr.TheVariants as Ip
use Rattle.std.specs.Net.{Addr.segments_of, Grammar.{IsDotted, IsGroupsAfter, IsGroups, IsElided, IsColonHex, IsIpText}, Text.dotted_text}
use Rattle.npf_types.specs.{declared.address.Addr.Addr, AddressText.IsAddressText}
use Rattle.npf_lexer.specs.Run.{is_no_colon}
use Rattle.npf_show_tokens.proofs.Digits.{decimal_first, digit_no_letter, one_lacks}

-- a text that stands in front of another begins it
pub first_left : (xs ys : List ℕ) → 0 < length xs → slice_index (xs ++ ys) 0 ≡ slice_index xs 0
first_left [] ys some = absurd (omega (arith, some))
first_left (x ∷ xs) ys some = refl

-- the parts of a dotted text, from the right on
pub dotted_parts : (a b c d : ℕ) → dotted_text a b c d ≡ decimal a ++ 46 ∷ (decimal b ++ 46 ∷ (decimal c ++ 46 ∷ decimal d))
dotted_parts a b c d = simp append_assoc refl

pub dotted_first : (a b c d : ℕ) → a < 256 → is_ascii_digit (slice_index (dotted_text a b c d) 0) ≡ true
dotted_first a b c d small =
    let wide : a < 2 ^ 64 = omega (arith, small) in
    ap (λ text. is_ascii_digit (slice_index text 0)) (dotted_parts a b c d)
    ∙ ap is_ascii_digit (first_left (decimal a) (46 ∷ (decimal b ++ 46 ∷ (decimal c ++ 46 ∷ decimal d))) (decimal_nonempty a wide))
    ∙ decimal_first a wide

true_not_false : true ≡ false → ⊥
true_not_false h = cc

letter_not_dotted : (text octets : List ℕ) → is_ascii_alphabetic (slice_index text 0) ≡ true → ¬ IsDotted text octets
letter_not_dotted text octets letter is =
    let digit = ap (λ t. is_ascii_digit (slice_index t 0)) is.spelled ∙ dotted_first is.a is.b is.c is.d is.fit.0 in
    let no_letter = digit_no_letter (slice_index text 0) digit in
    absurd (true_not_false (sym letter ∙ no_letter))

-- groups behind a colon have one
colon_there : (text : List ℕ) (s : ℕ) (segments : List ℕ) → IsGroupsAfter true (codes ":") text (s ∷ segments) → (more : List ℕ) × (text ≡ 58 ∷ more)
colon_there text s segments (inl (group, rest, is, _, _)) = (group ++ rest, is ∙ append_assoc (58 ∷ []) group rest)
colon_there text s segments (inr (last, octets, _, is, _, _)) = (last, is)

two_octets : (text octets : List ℕ) (s t u : ℕ) (segments : List ℕ) → IsDotted text octets → s ∷ t ∷ u ∷ segments ≡ segments_of octets → ⊥
two_octets text octets s t u segments is same =
    let long : length (s ∷ t ∷ u ∷ segments) ≡ 2 = ap length (same ∙ ap segments_of is.value) in
    absurd (omega (arith, long))

groups_have_colon : (text : List ℕ) (s t u : ℕ) (segments : List ℕ) → IsGroups true text (s ∷ t ∷ u ∷ segments) → list_all is_no_colon text ≡ false
groups_have_colon text s t u segments (inl (group, rest, is, _, behind)) =
    let colon = colon_there rest t (u ∷ segments) behind in
    ap (list_all is_no_colon) (is ∙ ap (λ r. group ++ r) colon.1) ∙ one_lacks is_no_colon group 58 colon.0 refl
groups_have_colon text s t u segments (inr (last, octets, _, is, dotted, same)) = absurd (two_octets last octets s t u segments dotted same)

eight_have_colon : (text segments : List ℕ) → IsGroups true text segments → length segments ≡ 8 → list_all is_no_colon text ≡ false
eight_have_colon text (s ∷ t ∷ u ∷ segments) is eight = groups_have_colon text s t u segments is
eight_have_colon text [] is eight = absurd (omega (arith, eight))
eight_have_colon text (s ∷ []) is eight = absurd (omega (arith, eight))
eight_have_colon text (s ∷ t ∷ []) is eight = absurd (omega (arith, eight))

elided_has_colon : (text segments : List ℕ) → IsElided text segments → list_all is_no_colon text ≡ false
elided_has_colon text segments is =
    ap (list_all is_no_colon) (is.spelled ∙ append_assoc is.head_text (58 ∷ 58 ∷ []) is.tail_text)
    ∙ one_lacks is_no_colon is.head_text 58 (58 ∷ is.tail_text) refl

colon_hex_has_colon : (text segments : List ℕ) → IsColonHex text segments → list_all is_no_colon text ≡ false
colon_hex_has_colon text segments (inl (is, eight)) = eight_have_colon text segments is eight
colon_hex_has_colon text segments (inr is) = elided_has_colon text segments is

word_not_ip : (text : List ℕ) (ip : IpAddr) → is_ascii_alphabetic (slice_index text 0) ≡ true → list_all is_no_colon text ≡ true → ¬ IsIpText text ip
word_not_ip text (Ip.V4 ip) letter plain is = letter_not_dotted text _ letter is
word_not_ip text (Ip.V6 ip) letter plain is = true_not_false (sym plain ∙ colon_hex_has_colon text _ is)

-- a word isn't
pub word_not_address : (text : List ℕ) (addr : Addr) → is_ascii_alphabetic (slice_index text 0) ≡ true → list_all is_no_colon text ≡ true → ¬ IsAddressText text addr
word_not_address text addr letter plain is = word_not_ip text is.ip letter plain is.spelled
