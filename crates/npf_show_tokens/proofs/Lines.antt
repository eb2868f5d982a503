-- The lines of a model's canonical text.
use Rattle.std.proofs.Common.{◌≡◌, ℕ, ◌<◌, ◌^◌, ◌==◌, ◌&&◌, Bool, true, false, not, if◌then◌else◌, List, [], ◌∷◌, ◌++◌, length}
use Rattle.std.{proofs.{Common.{slice_index, decimal, codes, refl, sym, ap, subst, ◌∙◌, arith, append_assoc}, lemmas.Bool.and_parts}, specs.Prelude.bit_and}
use Rattle.std.proofs.lemmas.{Bool.Decides.nat_tests, List.Elements.{All-head, All-tail}, Fmt.decimal_nonempty}
use Rattle.std.specs.{Char.{is_ascii_alphabetic, is_ascii_digit}, List.{All, flat_map, list_all}}
use Rattle.npf_types.specs.{declared.{address.Addr.{Addr, TheVariants.{V4, V6}}, name.Name.Name, prefix.Prefix.Prefix}, Address.width, Name.name_bytes}
use Rattle.npf_types.specs.NameText.{is_name_byte}
use Rattle.npf_lexer.specs.declared.token.Sign.TheVariants as Signs
use Rattle.npf_lexer.specs.{ByteClass.{is_run_byte, is_string_byte}, Run.{is_word, is_no_colon, longest_run}}
use Rattle.npf_show.specs.{Ends.{prefix_pieces, range_pieces, angled}, Filter.{flag_text, flags_pieces, letter_if_set, letters_of_bits}}
use Rattle.npf_show.specs.Piece.{Piece, spelled, glued, spaced, line_end, indent, closing_line}
use Rattle.npf_show.specs.Piece as Pieces
use Rattle.npf_show_tokens.specs.Showable.{IsPlain, FitsAddr, FitsByte, IsShowablePrefix, IsShowableRange, AreShowableFlags}
use Rattle.npf_show_tokens.specs.Tokens.{AreTold, IsTold, ends_run, is_run_word}
use Rattle.npf_show_tokens.proofs.Chunks.{Stands, Follows, ends_here, behind_space, behind_line, word_told, number_told, sign_told, word_follows}
use Rattle.npf_show_tokens.proofs.{Digits.{all_join, all_weaker, decimal_first, letter_some}, NoAddress.first_left, RunTexts.longest_of_bytes}

-- an address where its run ends
address_is_told : (addr : Addr) → FitsAddr addr → (text : List ℕ) → ends_run text ≡ true → IsTold (Pieces.Address addr) text
address_is_told (V4 bits) fits text ends = (fits, ends)
address_is_told (V6 bits) fits text ends = (fits, ends)

by_length : (addr : Addr) (len : ℕ) → FitsAddr addr → FitsByte len → (full : Bool)
    → Follows (spaced (Pieces.Address addr) ++ (if full then [] else glued (Pieces.Sign (codes "/")) ++ glued (Pieces.Number len)))
by_length addr len fits small true rest stands =
    behind_space (Pieces.Address addr ∷ rest) (address_is_told addr fits (spelled rest) (ends_here rest stands.parts), stands.told)
by_length addr len fits small false rest stands =
    behind_space (Pieces.Address addr ∷ Pieces.Sign (codes "/") ∷ Pieces.Number len ∷ rest) (
      address_is_told addr fits (spelled (Pieces.Sign (codes "/") ∷ Pieces.Number len ∷ rest)) refl,
      (record { sign = Signs.Slash; spelled = refl; ends = refl }, number_told len rest (omega (arith, small)) stands),
    )

pub prefix_follows : (prefix : Prefix) → IsShowablePrefix prefix → Follows (prefix_pieces prefix)
prefix_follows prefix is = by_length prefix.addr prefix.len is.addr is.len (prefix.len == width prefix.addr)

digit_no_greater : (b : ℕ) → is_ascii_digit b ≡ true → not (b == 62) ≡ true
digit_no_greater b is = grind (arith, nat_tests)

dash_before : (n : ℕ) (text : List ℕ) → n < 2 ^ 16 → not (slice_index (decimal n ++ text) 0 == 62) ≡ true
dash_before n text small =
    let wide : n < 2 ^ 64 = omega (arith, small) in
    ap (λ b. not (b == 62)) (first_left (decimal n) text (decimal_nonempty n wide)) ∙ digit_no_greater (slice_index (decimal n) 0) (decimal_first n wide)

by_last : (first last : ℕ) → first < 2 ^ 16 → last < 2 ^ 16 → (alone : Bool)
    → Follows (spaced (Pieces.Number first) ++ (if alone then [] else glued (Pieces.Sign (codes "-")) ++ glued (Pieces.Number last)))
by_last first last small small2 true rest stands =
    behind_space (Pieces.Number first ∷ rest) (number_told first rest (omega (arith, small)) stands)
by_last first last small small2 false rest stands =
    behind_space (Pieces.Number first ∷ Pieces.Sign (codes "-") ∷ Pieces.Number last ∷ rest) (
      (omega (arith, small), refl),
      (record { sign = Signs.Dash; spelled = refl; ends = dash_before last (spelled rest) small2 }, number_told last rest (omega (arith, small2)) stands),
    )

pub range_follows : (range : ℕ × ℕ) → IsShowableRange range → Follows (range_pieces range)
range_follows range is = by_last range.0 range.1 is.0 is.1 (range.0 == range.1)

letter_no_dash : (b : ℕ) → is_ascii_alphabetic b ≡ true → not (b == 45) ≡ true
letter_no_dash b is = grind (arith, nat_tests)

pub angled_follows : (name : List ℕ) → is_run_word name ≡ true → Follows (angled name)
angled_follows name is rest stands =
    let word = (and_parts (is_word name) (longest_run true name == length name) is).0 in
    let letter = (and_parts (is_ascii_alphabetic (slice_index name 0)) (list_all is_no_colon name) word).0 in
    let first = first_left name (62 ∷ spelled rest) (letter_some name letter) in
    let ends = ap (λ b. not (b == 45)) first ∙ letter_no_dash (slice_index name 0) letter in
    behind_space (Pieces.Sign (codes "<") ∷ Pieces.Word name ∷ Pieces.Sign (codes ">") ∷ rest)
    (record { sign = Signs.Less; spelled = refl; ends = ends }, ((is, refl), sign_told Signs.Greater rest stands))

-- flags are letters
letter_if : (letter : ℕ) → is_ascii_alphabetic letter ≡ true → (unset : Bool) → list_all is_ascii_alphabetic (if unset then [] else letter ∷ []) ≡ true
letter_if letter is true = refl
letter_if letter is false = rw is refl

flags_are_letters : (rows : List (ℕ × ℕ)) (bits : ℕ) → list_all (λ row. is_ascii_alphabetic row.0) rows ≡ true → list_all is_ascii_alphabetic (flat_map (letter_if_set bits) rows) ≡ true
flags_are_letters [] bits all = refl
flags_are_letters (row ∷ rows) bits all =
    let parts = and_parts (is_ascii_alphabetic row.0) (list_all (λ other. is_ascii_alphabetic other.0) rows) all in
    all_join is_ascii_alphabetic (letter_if_set bits row) (flat_map (letter_if_set bits) rows) (letter_if row.0 parts.0 (bit_and bits row.1 == 0)) (flags_are_letters rows bits parts.1)

letter_no_colon : (b : ℕ) → is_ascii_alphabetic b ≡ true → is_no_colon b ≡ true
letter_no_colon b is = grind (arith, nat_tests)

letter_in_run : (b : ℕ) → is_ascii_alphabetic b ≡ true → is_run_byte b ≡ true
letter_in_run b is = grind (arith, nat_tests)

all_true : (a b c : Bool) → a ≡ true → b ≡ true → c ≡ true → (a && b && c) ≡ true
all_true true true c h k l = l
all_true true false c h k l = cc
all_true false b c h k l = cc

first_letter : (text : List ℕ) → 0 < length text → list_all is_ascii_alphabetic text ≡ true → is_ascii_alphabetic (slice_index text 0) ≡ true
first_letter [] some all = absurd (omega (arith, some))
first_letter (b ∷ bs) some all = (and_parts (is_ascii_alphabetic b) (list_all is_ascii_alphabetic bs) all).0

letters_are_word : (text : List ℕ) → 0 < length text → list_all is_ascii_alphabetic text ≡ true → is_run_word text ≡ true
letters_are_word text some all =
    let whole = longest_of_bytes true text (all_weaker is_ascii_alphabetic is_run_byte letter_in_run text all) in
    let same : (longest_run true text == length text) ≡ true = grind (arith, nat_tests) in
    all_true (is_ascii_alphabetic (slice_index text 0)) (list_all is_no_colon text) (longest_run true text == length text)
    (first_letter text some all) (all_weaker is_ascii_alphabetic is_no_colon letter_no_colon text all) same

flags_are_word : (bits : ℕ) → 0 < length (flag_text bits) → is_run_word (flag_text bits) ≡ true
flags_are_word bits some = letters_are_word (flag_text bits) some (flags_are_letters letters_of_bits bits refl)

pub flags_follow : (flags : ℕ × ℕ) → AreShowableFlags flags → Follows (flags_pieces flags)
flags_follow flags is rest stands =
    let mask = flag_text flags.1 in
    let wanted = flag_text flags.0 in
    let tail = word_told mask rest (flags_are_word flags.1 is.1) stands in
    let told : AreTold (Pieces.Word wanted ∷ Pieces.Sign (codes "/") ∷ Pieces.Word mask ∷ rest) =
    ((flags_are_word flags.0 is.0, refl), (record { sign = Signs.Slash; spelled = refl; ends = refl }, tail)) in
    word_follows (codes "flags") refl (Pieces.Space ∷ Pieces.Word wanted ∷ Pieces.Sign (codes "/") ∷ Pieces.Word mask ∷ rest)
    (behind_space (Pieces.Word wanted ∷ Pieces.Sign (codes "/") ∷ Pieces.Word mask ∷ rest) told)

name_byte_plain : (b : ℕ) → is_name_byte b ≡ true → is_string_byte b ≡ true
name_byte_plain b is = grind (arith, nat_tests)

-- a name can stand in quotes
pub name_is_plain : (name : Name) → IsPlain (name_bytes name)
name_is_plain name = all_weaker is_name_byte is_string_byte name_byte_plain (name_bytes name) (and_parts _ (list_all is_name_byte (name_bytes name)) name.named).1

-- what begins a line
abbrev pub Opens : List Piece → Type 0
Opens chunk = (rest : List Piece) → Stands rest → AreTold (chunk ++ rest)

-- whole lines
abbrev pub Lines : List Piece → Type 0
Lines chunk = (rest : List Piece) → AreTold rest → AreTold (chunk ++ rest)

pub opens_word : (text : List ℕ) → is_run_word text ≡ true → Opens (glued (Pieces.Word text))
opens_word text is rest stands = word_told text rest is stands

-- a word before a colon
pub opens_colon : (text : List ℕ) → is_run_word text ≡ true → Opens (indent ++ glued (Pieces.Word text) ++ glued (Pieces.Sign (codes ":")))
opens_colon text is rest stands =
    (tt, (tt, ((is, ends_here rest stands.parts), (record { sign = Signs.Colon; spelled = refl; ends = ends_here rest stands.parts }, stands.told))))

pub opens_more : (a b : List Piece) → Opens a → Follows b → Opens (a ++ b)
opens_more a b o f rest stands = subst AreTold (sym (append_assoc a b rest)) (o (b ++ rest) (f rest stands))

pub opens_indented : (a : List Piece) → Opens a → Opens (indent ++ a)
opens_indented a o rest stands = (tt, (tt, o rest stands))

pub opens_line : (a : List Piece) → Opens a → Lines (a ++ line_end)
opens_line a o rest told = subst AreTold (sym (append_assoc a line_end rest)) (o (Pieces.LineEnd ∷ rest) (behind_line rest told))

pub closes : Lines closing_line
closes rest told = sign_told Signs.CloseBrace (Pieces.LineEnd ∷ rest) (behind_line rest told)

pub no_lines : Lines []
no_lines rest told = told

pub both_lines : (a b : List Piece) → Lines a → Lines b → Lines (a ++ b)
both_lines a b f g rest told = subst AreTold (sym (append_assoc a b rest)) (f (b ++ rest) (g rest told))

pub each_lines : {A : Type 0} (P : A → Type 0) (pieces : A → List Piece) → ((a : A) → P a → Lines (pieces a))
    → (xs : List A) → All P xs → Lines (flat_map pieces xs)
each_lines P pieces step [] all = no_lines
each_lines P pieces step (x ∷ xs) all =
    both_lines (pieces x) (flat_map pieces xs) (step x (All-head P x xs all)) (each_lines P pieces step xs (All-tail P x xs all))
