-- What begins where a piece stands.
use Rattle.std.proofs.Common.{MatchBool, inl, inr, decimal, nat_lt, ◌^◌, ◌≡◌, ℕ, ◌+◌, ◌<◌, ◌==◌, ◌||◌, Bool, true, false, not, nat_eq, List}
use Rattle.std.proofs.{Common.{[], ◌∷◌, ◌++◌, length, slice_index, refl, sym, ap, subst, ◌∙◌, arith}, lemmas.Bool.{and_parts, Decides.nat_tests}}
use Rattle.std.proofs.{Math.Seq.take-append_seam, lemmas.Fmt.{decimal_is_IsNumeral, decimal_nonempty}}
use Rattle.std.specs.{Char.{is_ascii_alphabetic, is_ascii_alphanumeric, is_ascii_digit}, List.{list_all, prefix_len}}
use Rattle.npf_types.specs.{declared.address.Addr.Addr, AddressText.IsAddressText}
use Rattle.npf_lexer.specs.{declared.token.Sign.Sign, ByteClass.{byte_class, is_run_byte, is_string_byte}, Front.{Begins, BeginsWith, token_front, run_front}}
use Rattle.npf_lexer.specs.declared.token.Sign.TheVariants as Signs
use Rattle.npf_lexer.specs.declared.token.TokenKind.TheVariants as Kind
use Rattle.npf_lexer.specs.{Run.{run_len, longest_run, number_run, word_run, is_word, is_decimal, is_no_colon, ReadsRun, IsAddressOrWord}, Sign.sign_text}
use Rattle.npf_lexer.{specs.Place.text_start, proofs.RunLemmas.run_begins}
use Rattle.npf_show_tokens.specs.Tokens.{ends_sign, ends_run, leaves_colon, is_run_word}
use Rattle.npf_show_tokens.proofs.{RunTexts.{stops_there, stops_digits, run_len_whole, run_len_colon, longest_of_bytes, colon_leaves}, AddressRuns.IsAddressRun}
use Rattle.npf_show_tokens.proofs.Digits.{all_weaker, no_colon_last, digit_in_run, digit_no_colon, digit_alphanumeric, digit_no_letter, decimal_all, decimal_first, decimal_is_decimal, letter_some}

-- The types of the lexer's places and of what begins at one, which its crate keeps for itself.
abbrev TypeOf : {A : Type 0} → A → Type 0
TypeOf {A} a = A

abbrev pub At : Type 0
At = TypeOf text_start

-- a string's bytes end at the quote
pub string_ends : (text rest : List ℕ) → list_all is_string_byte text ≡ true → prefix_len is_string_byte (text ++ 34 ∷ rest) ≡ length text
string_ends [] rest all = refl
string_ends (b ∷ bs) rest all =
    let parts = and_parts (is_string_byte b) (list_all is_string_byte bs) all in
    rw (parts.0, string_ends bs rest parts.1) (omega arith)

at_seam : (text rest : List ℕ) (b : ℕ) → slice_index (text ++ b ∷ rest) (length text) ≡ b
at_seam [] rest b = refl
at_seam (c ∷ cs) rest b = at_seam cs rest b

-- a string in its quotes
pub quoted_begins : (p : At) (text rest : List ℕ) → list_all is_string_byte text ≡ true
    → Begins p (34 ∷ (text ++ 34 ∷ rest)) (token_front (Kind.Str text) (length text + 2) p)
quoted_begins p text rest all =
    rw (string_ends text rest all, at_seam text rest 34, take-append_seam text (34 ∷ rest)) refl

-- a byte that begins a run
run_class : (b : ℕ) → is_ascii_alphanumeric b ≡ true → byte_class b ≡ byte_class 97
run_class b is =
    let blank : (b == 32 || b == 9 || b == 13) ≡ false = grind (arith, nat_tests) in
    let feed : (b == 10) ≡ false = grind (arith, nat_tests) in
    let semicolon : (b == 59) ≡ false = grind (arith, nat_tests) in
    let backslash : (b == 92) ≡ false = grind (arith, nat_tests) in
    let comment : (b == 35) ≡ false = grind (arith, nat_tests) in
    let quote : (b == 34) ≡ false = grind (arith, nat_tests) in
    let dollar : (b == 36) ≡ false = grind (arith, nat_tests) in
    rw (blank, feed, semicolon, backslash, comment, quote, dollar, is) refl

-- a run that is a token
pub run_token_begins : (p : At) (text rest : List ℕ) (run : TypeOf (number_run [])) → is_ascii_alphanumeric (slice_index text 0) ≡ true
    → run_len (text ++ rest) ≡ length text → ReadsRun text run → Begins p (text ++ rest) (run_front (length text) p run)
run_token_begins p [] rest run first len is = cc
run_token_begins p (b ∷ bs) rest run first len is =
    let front = run_front (length (b ∷ bs)) p run in
    let read = subst (λ bytes. ReadsRun bytes run) (sym (take-append_seam (b ∷ bs) rest)) is in
    subst (λ class. BeginsWith class p (b ∷ (bs ++ rest)) front) (sym (run_class b first))
    (run_begins p (b ∷ (bs ++ rest)) (length (b ∷ bs)) run front (sym len) (grind (arith, nat_tests)) read refl)

left_begins : (p : At) (rest : List ℕ) → not (slice_index rest 0 == 62) ≡ true → Begins p (60 ∷ 45 ∷ rest) (token_front (Kind.Sign Signs.Left) 2 p)
left_begins p [] ends = refl
left_begins p (b ∷ bs) ends = let other : nat_eq 62 b ≡ false = grind (arith, nat_tests) in rw other refl

less_begins : (p : At) (rest : List ℕ) → not (slice_index rest 0 == 45) ≡ true → Begins p (60 ∷ rest) (token_front (Kind.Sign Signs.Less) 1 p)
less_begins p [] ends = refl
less_begins p (b ∷ bs) ends = let other : nat_eq 45 b ≡ false = grind (arith, nat_tests) in rw other refl

dash_begins : (p : At) (rest : List ℕ) → not (slice_index rest 0 == 62) ≡ true → Begins p (45 ∷ rest) (token_front (Kind.Sign Signs.Dash) 1 p)
dash_begins p [] ends = refl
dash_begins p (b ∷ bs) ends = let other : nat_eq 62 b ≡ false = grind (arith, nat_tests) in rw other refl

-- a colon alone is a run of which nothing is left
colon_begins : (p : At) (rest : List ℕ) → ends_run rest ≡ true → Begins p (58 ∷ rest) (token_front (Kind.Sign Signs.Colon) 1 p)
colon_begins p rest ends =
    let none : run_len (58 ∷ rest) ≡ 0 = rw (stops_there false rest ends) refl in
    rw none refl

-- a sign
pub sign_begins : (p : At) (sign : Sign) (rest : List ℕ) → ends_sign sign rest ≡ true
    → Begins p (sign_text sign ++ rest) (token_front (Kind.Sign sign) (length (sign_text sign)) p)
sign_begins p Signs.Both rest ends = refl
sign_begins p Signs.Left rest ends = left_begins p rest ends
sign_begins p Signs.Right rest ends = refl
sign_begins p Signs.Less rest ends = less_begins p rest ends
sign_begins p Signs.Greater rest ends = refl
sign_begins p Signs.Equals rest ends = refl
sign_begins p Signs.OpenBrace rest ends = refl
sign_begins p Signs.CloseBrace rest ends = refl
sign_begins p Signs.OpenParen rest ends = refl
sign_begins p Signs.CloseParen rest ends = refl
sign_begins p Signs.Comma rest ends = refl
sign_begins p Signs.Slash rest ends = refl
sign_begins p Signs.Dash rest ends = dash_begins p rest ends
sign_begins p Signs.Colon rest ends = colon_begins p rest ends
sign_begins p Signs.Exclamation rest ends = refl

-- digits are a number, where they fit 32 bits
pub number_begins : (p : At) (n : ℕ) (rest : List ℕ) → n < 2 ^ 32 → not (is_run_byte (slice_index rest 0)) ≡ true
    → Begins p (decimal n ++ rest) (token_front (Kind.Number n) (length (decimal n)) p)
number_begins p n rest small ends =
    let wide : n < 2 ^ 64 = omega (arith, small) in
    let text = decimal n in
    let value = (decimal_is_IsNumeral n wide).1 in
    let first = decimal_first n wide in
    let no_letter = digit_no_letter (slice_index text 0) first in
    let all = decimal_all n wide in
    let len = run_len_whole text rest (decimal_nonempty n wide)
    (no_colon_last text (all_weaker is_ascii_digit is_no_colon digit_no_colon text all))
    (longest_of_bytes (is_ascii_alphabetic (slice_index text 0)) text (all_weaker is_ascii_digit is_run_byte digit_in_run text all))
    (ap (λ lettered. longest_run lettered rest) no_letter ∙ stops_digits rest ends) in
    let reads : ReadsRun text (number_run text) = rw (decimal_is_decimal n wide) refl in
    let fits : nat_lt n (2 ^ 32) ≡ true = grind (arith, nat_tests) in
    let front : run_front (length text) p (number_run text) ≡ token_front (Kind.Number n) (length text) p = rw (value, fits) refl in
    subst (Begins p (text ++ rest)) front
    (run_token_begins p text rest (number_run text) (digit_alphanumeric (slice_index text 0) first) len reads)

-- where the run of a word ends
word_len : (text rest : List ℕ) → 0 < length text → list_all is_no_colon text ≡ true → is_ascii_alphabetic (slice_index text 0) ≡ true
    → longest_run true text ≡ length text → (ends : Bool) → ends_run rest ≡ ends → (ends || leaves_colon rest) ≡ true
    → run_len (text ++ rest) ≡ length text
word_len text rest some plain first whole true ends told =
    run_len_whole text rest some (no_colon_last text plain) (rw first whole) (stops_there (is_ascii_alphabetic (slice_index text 0)) rest ends)
word_len text rest some plain first whole false ends told =
    let colon = colon_leaves rest told in
    subst (λ behind. run_len (text ++ behind) ≡ length text) (sym colon.1)
    (run_len_colon text colon.0 some (no_colon_last text plain) (rw first whole) colon.2)

letter_alphanumeric : (b : ℕ) → is_ascii_alphabetic b ≡ true → is_ascii_alphanumeric b ≡ true
letter_alphanumeric b is = grind (arith, nat_tests)

letter_no_digit : (b : ℕ) → is_ascii_alphabetic b ≡ true → is_ascii_digit b ≡ false
letter_no_digit b is = grind (arith, nat_tests)

-- a word that is no address
pub word_begins : (p : At) (text rest : List ℕ) → is_run_word text ≡ true → ((addr : Addr) → ¬ IsAddressText text addr)
    → (ends_run rest || leaves_colon rest) ≡ true → Begins p (text ++ rest) (token_front (Kind.Word text) (length text) p)
word_begins p text rest is no_address told =
    let parts = and_parts (is_word text) (longest_run true text == length text) is in
    let word = and_parts (is_ascii_alphabetic (slice_index text 0)) (list_all is_no_colon text) parts.0 in
    let whole : longest_run true text ≡ length text = grind (arith, nat_tests) in
    let len = word_len text rest (letter_some text word.0) word.1 word.0 whole (ends_run rest) refl told in
    let no_decimal : is_decimal text ≡ false = rw (letter_no_digit (slice_index text 0) word.0) refl in
    let reads : ReadsRun text (word_run text) =
    subst (λ b. MatchBool b (word_run text ≡ number_run text) (IsAddressOrWord text (word_run text))) (sym no_decimal) (inr (no_address, refl)) in
    let front : run_front (length text) p (word_run text) ≡ token_front (Kind.Word text) (length text) p = rw (parts.0) refl in
    subst (Begins p (text ++ rest)) front
    (run_token_begins p text rest (word_run text) (letter_alphanumeric (slice_index text 0) word.0) len reads)

-- the run of an address
address_run : (addr : Addr) → (run : TypeOf (number_run [])) × ((text : List ℕ) → IsAddressText text addr → IsAddressOrWord text run)
    × ((n : ℕ) (p : At) → run_front n p run ≡ token_front (Kind.Address addr) n p)
address_run addr = (_, λ text is. inl (addr, is, refl), λ n p. refl)

-- an address
pub address_begins : (p : At) (text rest : List ℕ) (addr : Addr) → IsAddressRun text → IsAddressText text addr → ends_run rest ≡ true
    → Begins p (text ++ rest) (token_front (Kind.Address addr) (length text) p)
address_begins p text rest addr run is ends =
    let lettered = is_ascii_alphabetic (slice_index text 0) in
    let len = run_len_whole text rest run.some run.last (longest_of_bytes lettered text run.within) (stops_there lettered rest ends) in
    let found = address_run addr in
    let reads : ReadsRun text found.0 =
    subst (λ b. MatchBool b (found.0 ≡ number_run text) (IsAddressOrWord text found.0)) (sym run.other) (found.1 text is) in
    subst (Begins p (text ++ rest)) (found.2 (length text) p) (run_token_begins p text rest found.0 run.first len reads)
