-- A table whose names rise, searched by halves: where a row isn't the name, no row to one side of it is.
use Rattle.std.proofs.Common.{◌≡◌, ℕ, ◌+◌, length, true, false, ◌&&◌, if◌then◌else◌, Some, None, List, [], ◌∷◌, ◌++◌, map, drop, take, refl, sym, ap, ◌∙◌}
use Rattle.std.proofs.lemmas.{Bool.and_parts, List.{map-append, take-append-drop}, Cmp.{alike_right, nat_list_cmp_total}, Map.Text.is_eq-slice_cmp}
use Rattle.std.specs.{Cmp.Lexicographic.slice_cmp, Ordering.{nat_cmp, is_lt, is_eq, ordering_reverse}, Str.bytes_eq}
use Rattle.std.specs.declared.cmp.Ordering.{Ordering, TheVariants.{Less, Equal, Greater}}
use Rattle.npf_names.specs.Names.{Names, number_named, is_before_next, rises}

abbrev order : List ℕ → List ℕ → Ordering
order = slice_cmp nat_cmp

is_less : (o : Ordering) → is_lt o ≡ true → o ≡ Less
is_less Less is = refl
is_less Equal is = cc
is_less Greater is = cc

-- what the order says of bytes
same_by : (a b : List ℕ) (o : Ordering) → order a b ≡ o → bytes_eq a b ≡ is_eq o
same_by a b o is = sym (is_eq-slice_cmp a b) ∙ ap is_eq is

turned : (a b : List ℕ) (o : Ordering) → order a b ≡ o → order b a ≡ ordering_reverse o
turned a b o is = nat_list_cmp_total.antisymm b a ∙ ap ordering_reverse is

-- the first row and the next
next_less : (row next : List ℕ × ℕ) (rows : Names) → rises (row ∷ next ∷ rows) ≡ true → (order row.0 next.0 ≡ Less) × (rises (next ∷ rows) ≡ true)
next_less row next rows up =
    let both = and_parts (is_lt (order row.0 next.0)) (rises (next ∷ rows)) up in (is_less (order row.0 next.0) both.0, both.1)

rest_rises : (row : List ℕ × ℕ) (rows : Names) → rises (row ∷ rows) ≡ true → rises rows ≡ true
rest_rises row rows up = (and_parts (is_before_next row rows) (rises rows) up).1

-- a row is less than each behind it
first_less : (row : List ℕ × ℕ) (before : Names) (one : List ℕ × ℕ) (behind : Names) → rises (row ∷ (before ++ one ∷ behind)) ≡ true → order row.0 one.0 ≡ Less
first_less row [] one behind up = (next_less row one behind up).0
first_less row (next ∷ before) one behind up =
    let both = next_less row next (before ++ one ∷ behind) up in
    nat_list_cmp_total.trans row.0 next.0 one.0 both.0 (first_less next before one behind both.1)

-- a row that isn't the name
passed : (row : List ℕ × ℕ) (rows : Names) (text : List ℕ) (o : Ordering) → order row.0 text ≡ o → is_eq o ≡ false → number_named (row ∷ rows) text ≡ number_named rows text
passed row rows text o is other = ap (λ b. if b then Some row.1 else number_named rows text) (same_by row.0 text o is ∙ other)

found_here : (row : List ℕ × ℕ) (rows : Names) (text : List ℕ) → order row.0 text ≡ Equal → number_named (row ∷ rows) text ≡ Some row.1
found_here row rows text is = ap (λ b. if b then Some row.1 else number_named rows text) (same_by row.0 text Equal is)

module _ (one : List ℕ × ℕ) (behind : Names) (text : List ℕ) where
  less_found : (before : Names) → rises (before ++ one ∷ behind) ≡ true → order one.0 text ≡ Less → number_named (before ++ one ∷ behind) text ≡ number_named behind text
  less_found [] up is = passed one behind text Less is refl
  less_found (row ∷ before) up is =
      passed row (before ++ one ∷ behind) text Less (nat_list_cmp_total.trans row.0 one.0 text (first_less row before one behind up) is) refl
      ∙ less_found before (rest_rises row (before ++ one ∷ behind) up) is

  equal_found : (before : Names) → rises (before ++ one ∷ behind) ≡ true → order one.0 text ≡ Equal → number_named (before ++ one ∷ behind) text ≡ Some one.1
  equal_found [] up is = found_here one behind text is
  equal_found (row ∷ before) up is =
      passed row (before ++ one ∷ behind) text Less (sym (alike_right nat_list_cmp_total one.0 text row.0 is) ∙ first_less row before one behind up) refl
      ∙ equal_found before (rest_rises row (before ++ one ∷ behind) up) is

-- a name that is less than the first is none of these
none_greater : (row : List ℕ × ℕ) (rows : Names) (text : List ℕ) → rises (row ∷ rows) ≡ true → order row.0 text ≡ Greater → number_named (row ∷ rows) text ≡ None
none_greater row [] text up is = passed row [] text Greater is refl
none_greater row (next ∷ rows) text up is =
    let both = next_less row next rows up in
    let less = nat_list_cmp_total.trans text row.0 next.0 (turned row.0 text Greater is) both.0 in
    passed row (next ∷ rows) text Greater is refl ∙ none_greater next rows text both.1 (turned text next.0 Less less)

greater_found : (before : Names) (one : List ℕ × ℕ) (behind : Names) (text : List ℕ) → rises (before ++ one ∷ behind) ≡ true → order one.0 text ≡ Greater
    → number_named (before ++ one ∷ behind) text ≡ number_named before text
greater_found [] one behind text up is = none_greater one behind text up is
greater_found (row ∷ before) one behind text up is =
    ap (λ found. if bytes_eq row.0 text then Some row.1 else found) (greater_found before one behind text (rest_rises row (before ++ one ∷ behind) up) is)

before_rises : (before : Names) (one : List ℕ × ℕ) (behind : Names) → rises (before ++ one ∷ behind) ≡ true → rises before ≡ true
before_rises [] one behind up = refl
before_rises (row ∷ []) one behind up = refl
before_rises (row ∷ next ∷ before) one behind up =
    let both = and_parts (is_lt (order row.0 next.0)) (rises (next ∷ (before ++ one ∷ behind))) up in
    ap (λ b. b && rises (next ∷ before)) both.0 ∙ before_rises (next ∷ before) one behind both.1

behind_rises : (before : Names) (one : List ℕ × ℕ) (behind : Names) → rises (before ++ one ∷ behind) ≡ true → rises behind ≡ true
behind_rises [] one behind up = rest_rises one behind up
behind_rises (row ∷ before) one behind up = behind_rises before one behind (rest_rises row (before ++ one ∷ behind) up)

-- rows in parts: those before one, it, and those behind it
module _ {X : Type 0} (f : X → List ℕ × ℕ) (xs before from behind : List X) (x : X) (k : ℕ) (front : before ≡ take k xs) (back : from ≡ drop k xs)
    (is : (from ≡ x ∷ behind) × (length behind + 1 ≡ length from)) (up : rises (map f xs) ≡ true) where
  whole : map f xs ≡ map f before ++ f x ∷ map f behind
  whole =
      ap (map f) (sym (take-append-drop k xs) ∙ ap (λ ys. ys ++ drop k xs) (sym front) ∙ ap (λ ys. before ++ ys) (sym back ∙ is.0)) ∙ map-append f before (x ∷ behind)

  parts_rise : rises (map f before ++ f x ∷ map f behind) ≡ true
  parts_rise = sym (ap rises whole) ∙ up

  pub before_up : rises (map f before) ≡ true
  before_up = before_rises (map f before) (f x) (map f behind) parts_rise

  pub behind_up : rises (map f behind) ≡ true
  behind_up = behind_rises (map f before) (f x) (map f behind) parts_rise

  in_parts : (text : List ℕ) → number_named (map f xs) text ≡ number_named (map f before ++ f x ∷ map f behind) text
  in_parts text = ap (λ names. number_named names text) whole

  pub if_less : (text : List ℕ) → order (f x).0 text ≡ Less → number_named (map f xs) text ≡ number_named (map f behind) text
  if_less text less = in_parts text ∙ less_found (f x) (map f behind) text (map f before) parts_rise less

  pub if_equal : (text : List ℕ) → order (f x).0 text ≡ Equal → number_named (map f xs) text ≡ Some (f x).1
  if_equal text equal = in_parts text ∙ equal_found (f x) (map f behind) text (map f before) parts_rise equal

  pub if_greater : (text : List ℕ) → order (f x).0 text ≡ Greater → number_named (map f xs) text ≡ number_named (map f before) text
  if_greater text greater = in_parts text ∙ greater_found (map f before) (f x) (map f behind) text parts_rise greater
