-- How far a run goes, where the text behind it ends it.
use Rattle.std.proofs.Common.{◌≡◌, ℕ, zero, suc, ◌+◌, ◌-◌, ◌<◌, ◌==◌, ◌&&◌, ◌||◌, Bool, true, false, not, nat_le, if◌then◌else◌, List, [], ◌∷◌, ◌++◌, length, slice_index, refl, ap, ◌∙◌, arith}
use Rattle.std.{proofs.lemmas.{Bool.{and_parts, not-true, Decides.nat_tests}, Grind.common_steps}, specs.Char.{is_ascii_alphabetic, is_ascii_alphanumeric}}
use Rattle.std.specs.List.{list_all}
use Rattle.npf_lexer.specs.{ByteClass.is_run_byte, Run.{goes_on, longest_run, ends_in_colon, run_len}}
use Rattle.npf_show_tokens.specs.Tokens.{ends_run, leaves_colon}

-- what goes on in a text goes on in a longer one
goes_on_longer : (lettered : Bool) (b : ℕ) (bs rest : List ℕ) → goes_on lettered (b ∷ bs) ≡ true → goes_on lettered (b ∷ (bs ++ rest)) ≡ true
goes_on_longer lettered b [] rest goes = grind (arith, nat_tests)
goes_on_longer lettered b (c ∷ cs) rest goes = goes

one_of_if : (b : Bool) (n m : ℕ) → (if b then 1 + n else 0) ≡ suc m → (b ≡ true) × (n ≡ m)
one_of_if true n m is = (refl, omega (arith, is))
one_of_if false n m is = absurd (omega (arith, is))

-- a run that is a whole text goes on with what goes on behind it
pub longest_whole : (lettered : Bool) (text rest : List ℕ) → longest_run lettered text ≡ length text
    → longest_run lettered (text ++ rest) ≡ length text + longest_run lettered rest
longest_whole lettered [] rest whole = omega arith
longest_whole lettered (b ∷ bs) rest whole =
    let parts = one_of_if (goes_on lettered (b ∷ bs)) (longest_run lettered bs) (length bs) whole in
    rw (goes_on_longer lettered b bs rest parts.0, longest_whole lettered bs rest parts.1) (omega arith)

-- bytes of a run make one
pub longest_of_bytes : (lettered : Bool) (text : List ℕ) → list_all is_run_byte text ≡ true → longest_run lettered text ≡ length text
longest_of_bytes lettered [] all = refl
longest_of_bytes lettered (b ∷ bs) all =
    let parts = and_parts (is_run_byte b) (list_all is_run_byte bs) all in
    rw (parts.0, longest_of_bytes lettered bs parts.1) (omega arith)

not_going : (lettered : Bool) (rest : List ℕ) → goes_on lettered rest ≡ false → longest_run lettered rest ≡ 0
not_going lettered [] ends = refl
not_going lettered (b ∷ bs) ends = rw ends refl

both_false : (run dash other lettered : Bool) → (not run && not dash) ≡ true → (run || (lettered && dash && other)) ≡ false
both_false false false other true is = refl
both_false false false other false is = refl
both_false true dash other lettered is = cc
both_false false true other lettered is = cc

-- what ends a run
pub stops_there : (lettered : Bool) (rest : List ℕ) → ends_run rest ≡ true → longest_run lettered rest ≡ 0
stops_there lettered rest ends =
    not_going lettered rest
    (both_false (is_run_byte (slice_index rest 0)) (slice_index rest 0 == 45) (is_ascii_alphanumeric (slice_index rest 1)) lettered ends)

-- digits don't go on with `-`
pub stops_digits : (rest : List ℕ) → not (is_run_byte (slice_index rest 0)) ≡ true → longest_run false rest ≡ 0
stops_digits rest ends = not_going false rest (rw (not-true _ ends) refl)

-- the last byte of a text in front of another
last_stays : (text rest : List ℕ) → 0 < length text → slice_index (text ++ rest) (length text - 1) ≡ slice_index text (length text - 1)
last_stays text rest some = grind (arith, common_steps)

no_end : (a b : Bool) → (a && false && b) ≡ false
no_end true b = refl
no_end false b = refl

not_in_colon : (n : ℕ) (text : List ℕ) → (slice_index text (n - 1) == 58) ≡ false → ends_in_colon n text ≡ false
not_in_colon zero text other = refl
not_in_colon (suc n) text other = rw other (no_end (nat_le 1 (suc n)) (not (nat_le 2 (suc n) && slice_index text (suc n - 2) == 58)))

and_nothing : (b : Bool) → not (b && false) ≡ true
and_nothing true = refl
and_nothing false = refl

in_colon : (n : ℕ) (text : List ℕ) → slice_index text n ≡ 58 → (slice_index text (n - 1) == 58) ≡ false → ends_in_colon (n + 1) text ≡ true
in_colon n text colon other =
    let at : n + 1 - 1 ≡ n = omega arith in
    let before : n + 1 - 2 ≡ n - 1 = omega arith in
    let some : nat_le 1 (n + 1) ≡ true = grind (arith, nat_tests) in
    rw (at, before, some, colon, other) (and_nothing (nat_le 2 (n + 1)))

-- a run that nothing behind it lengthens
pub run_len_whole : (text rest : List ℕ) → 0 < length text
    → (slice_index text (length text - 1) == 58) ≡ false
    → longest_run (is_ascii_alphabetic (slice_index text 0)) text ≡ length text
    → longest_run (is_ascii_alphabetic (slice_index text 0)) rest ≡ 0
    → run_len (text ++ rest) ≡ length text
run_len_whole [] rest some other whole ends = absurd (omega (arith, some))
run_len_whole (b ∷ bs) rest some other whole ends =
    let n : longest_run (is_ascii_alphabetic b) (b ∷ (bs ++ rest)) ≡ length (b ∷ bs) =
    longest_whole (is_ascii_alphabetic b) (b ∷ bs) rest whole ∙ ap (λ k. length (b ∷ bs) + k) ends ∙ omega arith in
    let last = ap (λ c. c == 58) (last_stays (b ∷ bs) rest some) ∙ other in
    rw (n, not_in_colon (length (b ∷ bs)) (b ∷ (bs ++ rest)) last) refl

pub colon_leaves : (rest : List ℕ) → leaves_colon rest ≡ true → (more : List ℕ) × (rest ≡ 58 ∷ more) × (ends_run more ≡ true)
colon_leaves [] leaves = cc
colon_leaves (b ∷ bs) leaves =
    let parts = and_parts (b == 58) (ends_run bs) leaves in
    let is : b ≡ 58 = grind (arith, nat_tests) in
    (bs, ap (λ c. c ∷ bs) is, parts.1)

-- a run in front of a colon leaves it
pub run_len_colon : (text more : List ℕ) → 0 < length text
    → (slice_index text (length text - 1) == 58) ≡ false
    → longest_run (is_ascii_alphabetic (slice_index text 0)) text ≡ length text
    → ends_run more ≡ true
    → run_len (text ++ 58 ∷ more) ≡ length text
run_len_colon [] more some other whole ends = absurd (omega (arith, some))
run_len_colon (b ∷ bs) more some other whole ends =
    let text = b ∷ bs in
    let n : longest_run (is_ascii_alphabetic b) (b ∷ (bs ++ 58 ∷ more)) ≡ length text + 1 =
    longest_whole (is_ascii_alphabetic b) text (58 ∷ more) whole ∙ ap (λ k. length text + (1 + k)) (stops_there (is_ascii_alphabetic b) more ends) in
    let colon : slice_index (b ∷ (bs ++ 58 ∷ more)) (length text) ≡ 58 = grind (arith, common_steps) in
    let last : slice_index (b ∷ (bs ++ 58 ∷ more)) (length text - 1) ≡ slice_index text (length text - 1) = last_stays text (58 ∷ more) some in
    let no_colon = ap (λ c. c == 58) last ∙ other in
    rw (n, in_colon (length text) (b ∷ (bs ++ 58 ∷ more)) colon no_colon) (omega arith)
