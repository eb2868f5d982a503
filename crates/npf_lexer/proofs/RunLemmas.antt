-- What a run is: one thing, and which.
use Rattle.std.proofs.Common.{◌≡◌, ℕ, ◌^◌, ◌<◌, ◌==◌, Bool, true, false, nat_lt, MatchBool, Result, Ok, Err, IfOk, List, [], ◌∷◌}
use Rattle.std.proofs.{Common.{length, take, slice_index, refl, sym, ap, subst, ◌∙◌, inl, inr, arith}, lemmas.Bool.Decides.nat_tests}
use Rattle.std.specs.{Char.{is_ascii_digit, digit_value}, List.list_all, Str.Parse.{AllDigits, IsNumeral, digits_value, without_leading_plus}}
use Rattle.std.proofs.lemmas.Bool.{and_parts}
use Rattle.npf_types.{specs.{declared.{address.Addr.Addr, memory.NoMemory.NoMemory}, AddressText.IsAddressText}, proofs.AddressTextLemmas.one_address}
use Rattle.npf_lexer.specs.declared.{front.Front.Front, place.TextPlace.TextPlace, run.RunKind.{RunKind, TheVariants.{Kind, TooLarge}}}
use Rattle.npf_lexer.specs.{declared.token.Sign.TheVariants.Colon, Front.{IsRunFront, run_front, token_front}}
use Rattle.npf_lexer.specs.declared.token.TokenKind.TheVariants as Token
use Rattle.npf_lexer.specs.Run.{IsAddressOrWord, ReadsRun, number_run, word_run, is_decimal, run_len}

digit_below : (c : ℕ) → is_ascii_digit c ≡ true → digit_value c < 10
digit_below c is = grind (arith, nat_tests)

digits_within : (run : List ℕ) → list_all is_ascii_digit run ≡ true → AllDigits 10 run
digits_within [] is = search
digits_within (c ∷ cs) is =
    let p = and_parts (is_ascii_digit c) (list_all is_ascii_digit cs) is in
    (digit_below c p.0, digits_within cs p.1)

pub decimal_digits : (run : List ℕ) → is_decimal run ≡ true → AllDigits 10 run
decimal_digits run is = digits_within run (and_parts (is_ascii_digit (slice_index run 0)) (list_all is_ascii_digit run) is).1

decimal_some : (run : List ℕ) → is_decimal run ≡ true → 0 < length run
decimal_some [] is = cc
decimal_some (c ∷ cs) is = omega arith

decimal_plain : (run : List ℕ) → is_decimal run ≡ true → without_leading_plus run ≡ run
decimal_plain run is =
    let first = (and_parts (is_ascii_digit (slice_index run 0)) (list_all is_ascii_digit run) is).0 in
    let no_plus : (slice_index run 0 == 43) ≡ false = grind (arith, nat_tests) in
    rw no_plus refl

-- digits that no 32 bits hold
pub decimal_too_large : (run : List ℕ) → is_decimal run ≡ true → ¬ (IsNumeral 10 (without_leading_plus run) × (digits_value 10 (without_leading_plus run) < 2 ^ 32)) → TooLarge ≡ number_run run
decimal_too_large run is none =
    let fits_not : digits_value 10 run < 2 ^ 32 →
    ⊥ = λ small. subst (λ ds. ¬ (IsNumeral 10 ds × (digits_value 10 ds < 2 ^ 32))) (decimal_plain run is) none ((decimal_some run is, decimal_digits run is), small) in
    let large : nat_lt (digits_value 10 run) (2 ^ 32) ≡ false = grind (arith, nat_tests) in
    rw large refl

-- a run that is neither digits nor an address
pub word_is_run : (run : List ℕ) (r : Result RunKind NoMemory) → is_decimal run ≡ false → ((address : Addr) → ¬ IsAddressText run address) → IfOk r (λ is. is ≡ word_run run) → IfOk r (ReadsRun run)
word_is_run run (Ok x) other none is = subst (λ b. MatchBool b (x ≡ number_run run) (IsAddressOrWord run x)) (sym other) (inr (none, is))
word_is_run run (Err _) other none is = search

-- what begins with a run
pub run_begins : (p : TextPlace) (text : List ℕ) (n : ℕ) (run : RunKind) (front : Front) → n ≡ run_len text →
    (n == 0) ≡ false → ReadsRun (take n text) run → front ≡ run_front n p run → IsRunFront p text front
run_begins p text n run front n_is some is front_is =
    let at_n : (m : ℕ) → n ≡ m → MatchBool (m == 0) (front ≡ token_front (Token.Sign Colon) 1 p) ((r : RunKind) × ReadsRun (take m text) r × (front ≡ run_front m p r)) =
    λ m same. subst (λ k. MatchBool (k == 0) (front ≡ token_front (Token.Sign Colon) 1 p) ((r : RunKind) × ReadsRun (take k text) r × (front ≡ run_front k p r))) same
    (subst (λ b. MatchBool b (front ≡ token_front (Token.Sign Colon) 1 p) ((r : RunKind) × ReadsRun (take n text) r × (front ≡ run_front n p r))) (sym some) (run, is, front_is)) in
    at_n (run_len text) n_is

address_or_word_same : (run : List ℕ) (x y : RunKind) → IsAddressOrWord run x → IsAddressOrWord run y → x ≡ y
address_or_word_same run x y (inl (a, is, x_is)) (inl (b, is', y_is)) = x_is ∙ ap (λ c. Kind (Token.Address c)) (one_address run a b is is') ∙ sym y_is
address_or_word_same run x y (inl (a, is, _)) (inr (none, _)) = absurd (none a is)
address_or_word_same run x y (inr (none, _)) (inl (b, is, _)) = absurd (none b is)
address_or_word_same run x y (inr (_, x_is)) (inr (_, y_is)) = x_is ∙ sym y_is

run_same_by : (run : List ℕ) (x y : RunKind) (decimal : Bool) → MatchBool decimal (x ≡ number_run run) (IsAddressOrWord run x) → MatchBool decimal (y ≡ number_run run) (IsAddressOrWord run y) → x ≡ y
run_same_by run x y true h k = h ∙ sym k
run_same_by run x y false h k = address_or_word_same run x y h k

-- a run is one thing
pub run_same : (run : List ℕ) (x y : RunKind) → ReadsRun run x → ReadsRun run y → x ≡ y
run_same run x y h k = run_same_by run x y (is_decimal run) h k
