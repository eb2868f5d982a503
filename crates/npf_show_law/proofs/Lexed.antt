-- The tokens of a text: words that are one run, strings without quotes and line feeds, addresses that fit.
use Rattle.std.proofs.Common.{◌≡◌, ◌≤◌, ◌^◌, ℕ, zero, suc, ◌+◌, ◌-◌, ◌==◌, ◌&&◌, ◌||◌, Bool, true, false, not, nat_le, nat_lt, MatchBool, inl, inr, if◌then◌else◌, cond, Option}
use Rattle.std.proofs.Common.{Some, None, Ok, Err, List, [], ◌∷◌, length, take, drop, slice_index, refl, sym, ap, subst, ◌∙◌, arith}
use Rattle.std.proofs.lemmas.{Bool.{and_parts, or_parts, and_from, Decides.nat_tests}, List.length-take}
use Rattle.std.specs.{Char.{is_ascii_alphabetic, is_ascii_alphanumeric}, List.{list_all, prefix_len}, Str.Parse.digits_value}
use Rattle.npf_lexer.specs.declared.token.{Sign.{Sign, TheVariants.Colon}, Token.Token, TokenKind.TokenKind}
use Rattle.npf_faults.specs.declared.fault.Fault.{Fault, TheVariants.{BadByte, OpenString, NumberTooLarge}}
use Rattle.npf_lexer.specs.declared.token.TokenKind.TheVariants as Kind
use Rattle.npf_lexer.specs.ByteClass.{byte_class, is_run_byte, is_string_byte, is_variable_start, is_variable_byte}
use Rattle.npf_lexer.specs.Front.{Advances, AdvancesWithin, Begins, BeginsWith, IsRunFront, token_front, run_front, sign_front}
use Rattle.npf_lexer.specs.Front.{string_front, variable_front, backslash_front, line_feed, faulty, skipped}
use Rattle.npf_lexer.specs.{Lexer.{Lexed, Lexes, IsLexed, end, skip, token, fault, onto}, Place.{text_start, span_of}}
use Rattle.npf_lexer.specs.Run.{goes_on, longest_run, ends_in_colon, run_len, is_decimal, number_run, is_word, word_run, IsAddressOrWord, ReadsRun}
use Rattle.npf_lexer.specs.Sign.{sign_at}
use Rattle.npf_show_tokens.specs.{Showable.IsPlain, Tokens.is_run_word}
use Rattle.npf_show_law.{proofs.AddressFits.address_fits, specs.Sound.{IsSoundKind, AreSoundTokens}}

abbrev TypeOf : {A : Type 0} → A → Type 0
TypeOf {A} a = A

abbrev At : Type 0
At = TypeOf text_start

abbrev FrontOf : Type 0
FrontOf = TypeOf (line_feed text_start)

abbrev RunOf : Type 0
RunOf = TypeOf (number_run [])

-- what a front tells at which a token is found: of which kind it is, and that it is no other front
record Finds (front : FrontOf) (t : Token) : Type 0 where
  tells : (kind : TokenKind) (m : ℕ) (p : At) → front ≡ token_front kind m p → kind ≡ t.kind
  feed : (p : At) → front ≡ line_feed p → Kind.LineFeed ≡ t.kind
  skips : (m : ℕ) (p : At) → front ≡ skipped m p → ⊥
  joins : (p : At) → front ≡ backslash_front p (92 ∷ 10 ∷ []) → ⊥
  faults : (why : Fault) (m : ℕ) (p : At) → front ≡ faulty why m p → ⊥
  over : (p : At) → Begins p [] front → ⊥

-- the token that is found is sound, where its front is this one
abbrev Sounds : FrontOf → Token → FrontOf → Type 0
Sounds front t here = front ≡ here → IsSoundKind t.kind

if_told : {X : Type 0} (P : X → Type 0) (b : Bool) (x y : X) → (b ≡ true → P x) → (b ≡ false → P y) → P (if b then x else y)
if_told P true x y one other = one refl
if_told P false x y one other = other refl

one_more : (n : ℕ) → suc n ≡ 1 + n
one_more n = omega arith

-- a string ends before its quote
plain_front : (xs : List ℕ) → IsPlain (take (prefix_len is_string_byte xs) xs)
plain_front [] = refl
plain_front (x ∷ xs) = by (is_string_byte x) refl (plain_front xs) where
  by : (b : Bool) → is_string_byte x ≡ b → IsPlain (take (prefix_len is_string_byte xs) xs) → IsPlain (take (cond b (1 + prefix_len is_string_byte xs) 0) (x ∷ xs))
  by true is later = subst (λ n. IsPlain (take n (x ∷ xs))) (one_more (prefix_len is_string_byte xs))
      (and_from (is_string_byte x) (list_all is_string_byte (take (prefix_len is_string_byte xs) xs)) is later)
  by false is later = refl

-- a run that stands in a text is one by itself, where it is cut before what is no letter and no digit
is_end : ℕ → Bool
is_end b = not (is_ascii_alphanumeric b)

if_some : (b : Bool) (n m : ℕ) → suc n ≤ (if b then 1 + m else 0) → (b ≡ true) × (n ≤ m)
if_some true n m some = (refl, omega (arith, some))
if_some false n m some = absurd (omega (arith, some))

stays : (b : ℕ) (n : ℕ) (bs : List ℕ) → is_ascii_alphanumeric (slice_index bs n) ≡ false → goes_on true (b ∷ bs) ≡ true → goes_on true (b ∷ take n bs) ≡ true
stays b zero [] ends goes = goes
stays b zero (c ∷ cs) ends goes = byte (is_run_byte b) (b == 45) (is_ascii_alphanumeric c) ends goes where
  byte : (run dash other : Bool) → other ≡ false → (run || (true && dash && other)) ≡ true → (run || (true && dash && false)) ≡ true
  byte true dash other off on = refl
  byte false true other off on = let no : true ≡ false = sym on ∙ off in cc
  byte false false other off on = on
stays b (suc n) [] ends goes = goes
stays b (suc n) (c ∷ cs) ends goes = goes

cut_run : (n : ℕ) (text : List ℕ) → n ≤ longest_run true text → is_ascii_alphanumeric (slice_index text n) ≡ false → longest_run true (take n text) ≡ n
cut_run zero text within ends = refl
cut_run (suc n) [] within ends = absurd (omega (arith, within))
cut_run (suc n) (b ∷ bs) within ends =
    let parts = if_some (goes_on true (b ∷ bs)) n (longest_run true bs) within in
    rw (stays b n bs ends parts.0, cut_run n bs parts.1 ends) (omega arith)

-- where the longest run ends
run_stops : (text : List ℕ) → is_run_byte (slice_index text (longest_run true text)) ≡ false
run_stops [] = refl
run_stops (b ∷ bs) = by (goes_on true (b ∷ bs)) refl (run_stops bs) where
  by : (on : Bool) → goes_on true (b ∷ bs) ≡ on → is_run_byte (slice_index bs (longest_run true bs)) ≡ false → is_run_byte (slice_index (b ∷ bs) (if on then 1 + longest_run true bs else 0)) ≡ false
  by true is later = subst (λ n. is_run_byte (slice_index (b ∷ bs) n) ≡ false) (one_more (longest_run true bs)) later
  by false is later = (or_parts (is_run_byte b) _ is).0

no_letter : (b : ℕ) → is_run_byte b ≡ false → is_ascii_alphanumeric b ≡ false
no_letter b is =
    let three = or_parts (is_ascii_alphanumeric b || b == 95 || b == 46) (b == 58) is in
    let two = or_parts (is_ascii_alphanumeric b || b == 95) (b == 46) three.0 in
    (or_parts (is_ascii_alphanumeric b) (b == 95) two.0).0

colon_there : (n : ℕ) (text : List ℕ) → ends_in_colon n text ≡ true → is_ascii_alphanumeric (slice_index text (n - 1)) ≡ false
colon_there n text ends =
    let first = and_parts (nat_le 1 n && slice_index text (n - 1) == 58) (not (nat_le 2 n && slice_index text (n - 2) == 58)) ends in
    let second = (and_parts (nat_le 1 n) (slice_index text (n - 1) == 58) first.0).1 in
    let is : slice_index text (n - 1) ≡ 58 = grind (arith, nat_tests) in
    ap is_ascii_alphanumeric is

abbrev run_length : List ℕ → ℕ
run_length text = if ends_in_colon (longest_run true text) text then longest_run true text - 1 else longest_run true text

letter_run : (text : List ℕ) → longest_run true (take (run_length text) text) ≡ run_length text
letter_run text = by (ends_in_colon (longest_run true text) text) refl where
  by : (b : Bool) → ends_in_colon (longest_run true text) text ≡ b
      → longest_run true (take (if b then longest_run true text - 1 else longest_run true text) text) ≡ (if b then longest_run true text - 1 else longest_run true text)
  by true is = cut_run (longest_run true text - 1) text (omega arith) (colon_there (longest_run true text) text is)
  by false is = cut_run (longest_run true text) text (omega arith) (no_letter (slice_index text (longest_run true text)) (run_stops text))

-- a front is as long as the longest run in it at least
longest_fits : (lettered : Bool) (text : List ℕ) → longest_run lettered text ≤ length text
longest_fits lettered [] = omega arith
longest_fits lettered (b ∷ bs) = by (goes_on lettered (b ∷ bs)) (longest_fits lettered bs) where
  by : (on : Bool) → longest_run lettered bs ≤ length bs → (if on then 1 + longest_run lettered bs else 0) ≤ suc (length bs)
  by true rest = omega (arith, rest)
  by false rest = omega arith

first_kept : (n : ℕ) (text : List ℕ) → is_ascii_alphabetic (slice_index (take n text) 0) ≡ true → is_ascii_alphabetic (slice_index text 0) ≡ true
first_kept zero text is = let no : false ≡ true = is in cc
first_kept (suc n) [] is = is
first_kept (suc n) (b ∷ bs) is = is

-- a word of the text is one run
word_whole : (text : List ℕ) → is_word (take (run_len text) text) ≡ true → is_run_word (take (run_len text) text) ≡ true
word_whole text is =
    let first = first_kept (run_len text) text (and_parts (is_ascii_alphabetic (slice_index (take (run_len text) text) 0)) _ is).0 in
    let same : run_len text ≡ run_length text = ap (λ lettered. if ends_in_colon (longest_run lettered text) text then longest_run lettered text - 1 else longest_run lettered text) first in
    let run : longest_run true (take (run_len text) text) ≡ run_len text = rw same (letter_run text) in
    let fits = longest_fits true (take (run_len text) text) in
    let few = length-take (run_len text) text in
    let whole : longest_run true (take (run_len text) text) ≡ length (take (run_len text) text) = omega (arith, run, fits, few) in
    let equal : (longest_run true (take (run_len text) text) == length (take (run_len text) text)) ≡ true = grind (arith, nat_tests) in
    rw (is, equal) refl

module _ (front : FrontOf) (t : Token) (finds : Finds front t) where
  token_sound : (kind : TokenKind) (m : ℕ) (p : At) → IsSoundKind kind → Sounds front t (token_front kind m p)
  token_sound kind m p sound e = subst IsSoundKind (finds.tells kind m p e) sound

  fault_sound : (why : Fault) (m : ℕ) (p : At) → Sounds front t (faulty why m p)
  fault_sound why m p e = absurd (finds.faults why m p e)

  string_sound : (p : At) (text : List ℕ) → Sounds front t (string_front p text)
  string_sound p text =
      let n = prefix_len is_string_byte (drop 1 text) in
      if_told (λ here. Sounds front t here) (slice_index (drop 1 text) n == 34) (token_front (Kind.Str (take n (drop 1 text))) (n + 2) p) (faulty OpenString 1 p)
      (λ _. token_sound (Kind.Str (take n (drop 1 text))) (n + 2) p (plain_front (drop 1 text))) (λ _. fault_sound OpenString 1 p)

  variable_sound : (p : At) (text : List ℕ) → Sounds front t (variable_front p text)
  variable_sound p text =
      let n = prefix_len is_variable_byte (drop 1 text) in
      if_told (λ here. Sounds front t here) (is_variable_start (slice_index text 1)) (token_front (Kind.Var (take n (drop 1 text))) (n + 1) p) (faulty BadByte 1 p)
      (λ _. token_sound (Kind.Var (take n (drop 1 text))) (n + 1) p tt) (λ _. fault_sound BadByte 1 p)

  backslash_sound : (p : At) (text : List ℕ) → Sounds front t (backslash_front p text)
  backslash_sound p text =
      if_told (λ here. Sounds front t here) (slice_index text 1 == 10) (backslash_front p (92 ∷ 10 ∷ [])) (faulty BadByte 1 p)
      (λ _ e. absurd (finds.joins p e)) (λ _. fault_sound BadByte 1 p)

  sign_sound : (p : At) (o : Option Sign) → Sounds front t (sign_front p o)
  sign_sound p (Some sign) = token_sound (Kind.Sign sign) _ p tt
  sign_sound p None = fault_sound BadByte 1 p

  -- runs
  abbrev SoundsAs : ℕ → At → RunOf → Type 0
  SoundsAs m p run = Sounds front t (run_front m p run)

  number_sound : (m : ℕ) (p : At) (run : List ℕ) → SoundsAs m p (number_run run)
  number_sound m p run =
      if_told (SoundsAs m p) (nat_lt (digits_value 10 run) (2 ^ 32)) _ _ (λ _. token_sound (Kind.Number (digits_value 10 run)) m p tt) (λ _. fault_sound NumberTooLarge m p)

  word_sound : (m : ℕ) (p : At) (run : List ℕ) → (is_word run ≡ true → is_run_word run ≡ true) → SoundsAs m p (word_run run)
  word_sound m p run whole =
      if_told (SoundsAs m p) (is_word run) _ _ (λ is. token_sound (Kind.Word run) m p (whole is)) (λ _. fault_sound BadByte 1 p)

  either_sound : (m : ℕ) (p : At) (run : List ℕ) (r : RunOf) → (is_word run ≡ true → is_run_word run ≡ true) → IsAddressOrWord run r → SoundsAs m p r
  either_sound m p run r whole (inl (address, is, same)) = subst (SoundsAs m p) (sym same) (token_sound (Kind.Address address) m p (address_fits run address is))
  either_sound m p run r whole (inr (none, same)) = subst (SoundsAs m p) (sym same) (word_sound m p run whole)

  reads_sound : (m : ℕ) (p : At) (run : List ℕ) (r : RunOf) → (is_word run ≡ true → is_run_word run ≡ true) → ReadsRun run r → SoundsAs m p r
  reads_sound m p run r whole = by (is_decimal run) where
    by : (b : Bool) → MatchBool b (r ≡ number_run run) (IsAddressOrWord run r) → SoundsAs m p r
    by true is = subst (SoundsAs m p) (sym is) (number_sound m p run)
    by false is = either_sound m p run r whole is

  run_front_sound : (p : At) (text : List ℕ) → IsRunFront p text front → IsSoundKind t.kind
  run_front_sound p text = by (run_len text == 0) where
    by : (b : Bool) → MatchBool b (front ≡ token_front (Kind.Sign Colon) 1 p) ((run : RunOf) × ReadsRun (take (run_len text) text) run × (front ≡ run_front (run_len text) p run)) → IsSoundKind t.kind
    by true is = token_sound (Kind.Sign Colon) 1 p tt is
    by false (run, is, same) = reads_sound (run_len text) p (take (run_len text) text) run (word_whole text) is same

  -- the classes by one byte of each
  class_sound : (blank feed semicolon backslash comment quote dollar run : Bool) (p : At) (text : List ℕ)
      → BeginsWith (if blank then byte_class 32 else (if feed then byte_class 10 else (if semicolon then byte_class 59 else (if backslash then byte_class 92 else (if comment then byte_class 35
      else (if quote then byte_class 34 else (if dollar then byte_class 36 else (if run then byte_class 48 else byte_class 0)))))))) p text front
      → IsSoundKind t.kind
  class_sound true b c d e f g h p text is = absurd (finds.skips _ p is)
  class_sound false true c d e f g h p text is = subst IsSoundKind (finds.feed p is) tt
  class_sound false false true d e f g h p text is = token_sound Kind.Semicolon 1 p tt is
  class_sound false false false true e f g h p text is = backslash_sound p text is
  class_sound false false false false true f g h p text is = absurd (finds.skips _ p is)
  class_sound false false false false false true g h p text is = string_sound p text is
  class_sound false false false false false false true h p text is = variable_sound p text is
  class_sound false false false false false false false true p text is = run_front_sound p text is
  class_sound false false false false false false false false p text is = sign_sound p (sign_at text) is

front_sound : {front : FrontOf} (p : At) (text : List ℕ) (t : Token) → Begins p text front → Finds front t → IsSoundKind t.kind
front_sound p [] t is finds = absurd (finds.over p is)
front_sound {front = front} p (b ∷ bs) t is finds = class_sound front t finds (b == 32 || b == 9 || b == 13) (b == 10) (b == 59) (b == 92) (b == 35) (b == 34) (b == 36) (is_run_byte b) p (b ∷ bs) is

-- a token has a byte at least
no_bytes : (n : ℕ) (q : At) → Advances n q 0 → ⊥
no_bytes n q advances = let some = advances.some in let within = advances.within in omega (arith, some, within)

abbrev IsSoundLexed : Lexed → Type 0
IsSoundLexed (Ok ts) = AreSoundTokens ts
IsSoundLexed (Err f) = Unit {0}

onto_sound : (t : Token) (lexed : Lexed) → IsSoundKind t.kind → IsSoundLexed lexed → IsSoundLexed (onto t lexed)
onto_sound t (Ok ts) one more = (one, more)
onto_sound t (Err f) one more = tt

lexes_sound : (p : At) (text : List ℕ) (lexed : Lexed) → Lexes p text lexed → IsSoundLexed lexed
lexes_sound _ _ _ (end p text b) = (tt, tt)
lexes_sound _ _ _ (skip p text n q lexed b h) = lexes_sound q (drop n text) lexed h
lexes_sound _ _ _ (token p text t n q lexed b h) =
    let told = front_sound p text t b in
    let one = told (record {
      tells = λ kind m p e. let same : t ≡ record { kind = kind; span = span_of m p } = cc in sym (ap (λ t. t.kind) same);
      feed = λ p e. let same : t ≡ record { kind = Kind.LineFeed; span = span_of 1 p } = cc in sym (ap (λ t. t.kind) same);
      skips = λ m p e. cc;
      joins = λ p e. cc;
      faults = λ why m p e. no_bytes n q (subst (AdvancesWithin 0) (sym e) tt);
      over = λ p e. no_bytes n q (subst (AdvancesWithin 0) (sym e) tt);
    }) in
    onto_sound t lexed one (lexes_sound q (drop n text) lexed h)
lexes_sound _ _ _ (fault p text f b) = tt

-- the tokens of a text are sound
pub text_sound : (text : List ℕ) (tokens : List Token) → IsLexed text (Ok tokens) → AreSoundTokens tokens
text_sound text tokens is = lexes_sound text_start text (Ok tokens) is
