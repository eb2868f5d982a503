-- How the file of interfaces is read line by line.
use Rattle.std.proofs.Common.{◌≡◌, ◌≢◌, ◌==◌, ◌<◌, ◌≤◌, ◌+◌, ℕ, zero, suc, Bool, true, false, not, cond, List, [], ◌∷◌, ◌++◌, Contains, length, map, take}
use Rattle.std.proofs.Common.{drop, get_or, refl, sym, ap, subst, ◌∙◌, ◌||◌, true≢false, append-nil, Bor, arith}
use Rattle.std.{specs.List.{AllPairs, filter, onto_first, slice_split}, proofs.lemmas.Bool.eqb-true}
use Rattle.std.proofs.lemmas.List.{take_more, map-append, get_or-map, get_or_default, length-map, take-append-drop, drop_more, length-take-le}
use Rattle.std.proofs.lemmas.{List.{Elements.filter-append, Folds.list_any-append}, Map.Views.{Contains-from_any, list_any-from_Contains}}
use Rattle.std.proofs.{lemmas.{List.{Quantifiers.all_pairs_push, Splits.length-slice_split}, Option.slice_get_read}, Math.Seq.take-suc}
use Rattle.npf_types.specs.{declared.{address.Addr.Addr, name.Name.Name}, contracts.name.NameEq.TheImpl.Laws.laws-law, AddressText.IsAddressText}
use Rattle.npf_types.specs.contracts.name.NamePartialEq.TheImpl as name_eq
use Rattle.npf_types.proofs.NameLemmas.{Name-same}
use Rattle.std.{specs.{Cmp.IsEquivalence, List.list_any, Str.bytes_eq}, proofs.lemmas.{Bool.and_parts, Map.Views.exact_unsigned_eq, Slice.Eq.bytes_eq-Decides}}
use Rattle.npf_model.specs.declared.iface.Iface.{Iface}
use Rattle.npf_faults.specs.declared.fault.{ConfFault.ConfFault, Fault.TheVariants.BadIfaceFile}
use Rattle.npf_expand_interfaces.specs.IfaceFile.{Each, AreInterfaces, IsBadBehind, IsFirstBadIfaceLine, IsInterface, bytes_of_lines, has_some, iface_names, line_words, file_lines, written_lines}

-- one item more at the end of each
pub Each-push : {X Y : Type 0} (R : X → Y → Type 0) (xs : List X) (ys : List Y) (x : X) (y : Y) → Each R xs ys → R x y
    → Each R (xs ++ x ∷ []) (ys ++ y ∷ [])
Each-push R [] [] x y each goes = (goes, tt)
Each-push R [] (_ ∷ _) x y each goes = absurd each
Each-push R (_ ∷ _) [] x y each goes = absurd each
Each-push R (a ∷ xs) (b ∷ ys) x y each goes = (each.0, Each-push R xs ys x y each.1 goes)

-- each item goes with one
pub Each-at : {X Y : Type 0} (R : X → Y → Type 0) (xs : List X) (ys : List Y) (i : ℕ) (d : X) → Each R xs ys → i < length xs
    → (y : Y) × R (get_or xs i d) y
Each-at R [] ys i d each within = absurd (omega (arith, within))
Each-at R (_ ∷ _) [] i d each within = absurd each
Each-at R (x ∷ xs) (y ∷ ys) zero d each within = (y, each.0)
Each-at R (x ∷ xs) (y ∷ ys) (suc i) d each within = Each-at R xs ys i d each.1 (omega (arith, within))

-- the items up to one more
pub one_more : {X : Type 0} (all : List X) (n m : ℕ) (x : X) → n < length all → x ≡ get_or all n x → m ≡ n + 1
    → take m all ≡ take n all ++ x ∷ []
one_more all n m x within is more =
    let next : m ≡ suc n = omega (arith, more) in
    ap (λ k. take k all) next ∙ take-suc all n x within ∙ ap (λ y. take n all ++ y ∷ []) (sym is)

-- and what is kept of them
pub kept_more : {X : Type 0} (p : X → Bool) (all : List X) (n m : ℕ) (x : X) → n < length all → x ≡ get_or all n x → m ≡ n + 1
    → filter p (take m all) ≡ filter p (take n all) ++ filter p (x ∷ [])
kept_more p all n m x within is more = ap (filter p) (one_more all n m x within is more) ∙ filter-append p (take n all) (x ∷ [])

-- one word is read more, or none is, and then not all are
pub read_more : (words : List (Bor (List ℕ))) (i : ℕ) (d : Bor (List ℕ)) (addr : Addr) (addrs : List Addr) → i < length words
    → Each IsAddressText (take i (map (λ word. word.now) words)) addrs → IsAddressText (get_or words i d).now addr
    → Each IsAddressText (take (i + 1) (map (λ word. word.now) words)) (addrs ++ addr ∷ [])
read_more words i d addr addrs within each is =
    let texts : List (List ℕ) = map (λ word. word.now) words in
    let below : i < length texts = omega (arith, within, length-map words (λ (word : Bor (List ℕ)). word.now)) in
    let at : get_or texts i d.now ≡ (get_or words i d).now = get_or-map (λ word. word.now) words i d d.now within in
    subst (λ (front : List (List ℕ)). Each IsAddressText front (addrs ++ addr ∷ [])) (sym (take_more texts i d.now below))
    (Each-push IsAddressText (take i texts) addrs (get_or texts i d.now) addr each (subst (λ (text : List ℕ). IsAddressText text addr) (sym at) is))

pub not_read : (words : List (Bor (List ℕ))) (i : ℕ) (d : Bor (List ℕ)) → i < length words
    → ((addr : Addr) → ¬ IsAddressText (get_or words i d).now addr) → (addrs : List Addr) → ¬ Each IsAddressText (map (λ word. word.now) words) addrs
not_read words i d within none addrs each =
    let texts : List (List ℕ) = map (λ word. word.now) words in
    let below : i < length texts = omega (arith, within, length-map words (λ (word : Bor (List ℕ)). word.now)) in
    let at : get_or texts i d.now ≡ (get_or words i d).now = get_or-map (λ word. word.now) words i d d.now within in
    let (addr, is) = Each-at IsAddressText texts addrs i d.now each below in
    none addr (subst (λ (text : List ℕ). IsAddressText text addr) at is)

-- a piece with something in it is kept, and another isn't
pub kept : (piece : List ℕ) (empty : Bool) → empty ≡ (length piece == 0) → empty ≡ false → filter has_some (piece ∷ []) ≡ piece ∷ []
kept [] empty is off = cc
kept (_ ∷ _) empty is off = refl

pub not_kept : (piece : List ℕ) (empty : Bool) → empty ≡ (length piece == 0) → empty ≡ true → filter has_some (piece ∷ []) ≡ []
not_kept [] empty is on = refl
not_kept (x ∷ rest) empty is on = absurd (omega (arith, eqb-true (length (x ∷ rest)) 0 (sym is ∙ on)))

-- the words of the lines up to one more
pub written_more : (all : List (List ℕ)) (n m : ℕ) (line : List ℕ) → n < length all → line ≡ get_or all n line → m ≡ n + 1
    → written_lines (take m all) ≡ written_lines (take n all) ++ filter has_some (line_words line ∷ [])
written_more all n m line within is more =
    ap written_lines (one_more all n m line within is more) ∙ ap (filter has_some) (map-append line_words (take n all) (line ∷ []))
    ∙ filter-append has_some (map line_words (take n all)) (line_words line ∷ [])

-- where the text behind one more line begins
bytes_of_lines-append : (xs ys : List (List ℕ)) → bytes_of_lines (xs ++ ys) ≡ bytes_of_lines xs + bytes_of_lines ys
bytes_of_lines-append [] ys = omega arith
bytes_of_lines-append (x ∷ xs) ys = let rest = bytes_of_lines-append xs ys in omega (arith, rest)

pub bytes_more : (all : List (List ℕ)) (n m at : ℕ) (line : List ℕ) → n < length all → line ≡ get_or all n line → m ≡ n + 1
    → at ≡ bytes_of_lines (take n all) → at + (length line + 1) ≡ bytes_of_lines (take m all)
bytes_more all n m at line within is more so_far =
    let next : bytes_of_lines (take m all) ≡ bytes_of_lines (take n all ++ line ∷ []) = ap bytes_of_lines (one_more all n m line within is more) in
    let split = bytes_of_lines-append (take n all) (line ∷ []) in
    let last : bytes_of_lines (line ∷ []) ≡ length line + 1 = omega arith in
    omega (arith, next, split, last, so_far)

onto_more : (x : ℕ) (all : List (List ℕ)) → 0 < length all → bytes_of_lines (onto_first x all) ≡ suc (bytes_of_lines all)
onto_more x [] some = absurd (omega (arith, some))
onto_more x (line ∷ all) some = omega arith

split_bytes : (p : ℕ → Bool) (xs : List ℕ) → bytes_of_lines (slice_split p xs) ≡ length xs + 1
split_bytes p [] = refl
split_bytes p (x ∷ xs) = by (split_bytes p xs) (p x) where
  by : bytes_of_lines (slice_split p xs) ≡ length xs + 1 → (b : Bool)
      → bytes_of_lines (cond b ([] ∷ slice_split p xs) (onto_first x (slice_split p xs))) ≡ length (x ∷ xs) + 1
  by rest true = omega (arith, rest)
  by rest false =
      let some : 0 < length (slice_split p xs) = omega (arith, length-slice_split p xs) in
      let more = onto_more x (slice_split p xs) some in
      omega (arith, rest, more)

-- a line and those before it lie within the text
pub within_text : (text : List ℕ) (n : ℕ) (line : List ℕ) → n < length (file_lines text) → line ≡ get_or (file_lines text) n line
    → bytes_of_lines (take n (file_lines text)) + length line ≤ length text
within_text text n line within is =
    let all = file_lines text in
    let whole : bytes_of_lines (take n all ++ drop n all) ≡ bytes_of_lines all = ap bytes_of_lines (take-append-drop n all) in
    let split = bytes_of_lines-append (take n all) (drop n all) in
    let left : bytes_of_lines (drop n all) ≡ length line + 1 + bytes_of_lines (drop (n + 1) all) =
    ap bytes_of_lines (drop_more all n line within) ∙ ap (λ l. length l + 1 + bytes_of_lines (drop (n + 1) all)) (sym is) in
    let total : bytes_of_lines all ≡ length text + 1 = split_bytes _ text in
    omega (arith, whole, split, left, total)

-- names are told apart by `==`
abbrev pub same_name : Name → Name → Bool
same_name = (name_eq.ghosts).eq

same_name_laws : IsEquivalence same_name
same_name_laws = laws-law

abbrev pub has_name : List Name → Name → Bool
has_name names name = list_any (same_name name) names

same_name_tells : (one other : Name) → same_name one other ≡ true → one ≡ other
same_name_tells one other same =
    let both = and_parts (one.len == other.len) (bytes_eq one.bytes other.bytes) same in
    Name-same one other (exact_unsigned_eq _ _ both.0) ((bytes_eq-Decides one.bytes other.bytes).0 both.1)

or_yes : (a b : Bool) → b ≡ true → true ≡ (a || (b || false))
or_yes true b is = refl
or_yes false true is = refl
or_yes false false is = cc

or_no : (a b : Bool) → b ≡ false → a ≡ (a || (b || false))
or_no true b is = refl
or_no false true is = cc
or_no false false is = refl

-- the names of a set are those of a list, and stay so when both have one more
pub name_more : (keys new names : List Name) (name : Name) → ((q : Name) → has_name keys q ≡ has_name names q)
    → ((q : Name) → has_name new q ≡ cond (same_name name q) true (has_name keys q)) → (q : Name) → has_name new q ≡ has_name (names ++ name ∷ []) q
name_more keys new names name known put q =
    put q ∙ by (same_name name q) refl ∙ sym (list_any-append (same_name q) names (name ∷ [])) where
      by : (b : Bool) → same_name name q ≡ b → cond b true (has_name keys q) ≡ (has_name names q || has_name (name ∷ []) q)
      by true is = or_yes (has_name names q) (same_name q name) (same_name_laws.symm q name ∙ is)
      by false is = known q ∙ or_no (has_name names q) (same_name q name) (same_name_laws.symm q name ∙ is)

-- what a set answers says whether it had the name
pub was_known : (had added : Bool) → added ≡ not had → added ≡ false → had ≡ true
was_known true added is off = refl
was_known false added is off = cc

pub was_new : (had added : Bool) → added ≡ not had → added ≡ true → had ≡ false
was_new true added is on = cc
was_new false added is on = refl

pub name_known : (names : List Name) (name : Name) → has_name names name ≡ true → Contains names name
name_known names name = Contains-from_any same_name_tells name names

pub name_new : (names : List Name) (name : Name) → AllPairs (λ one other. one ≢ other) names → has_name names name ≡ false
    → AllPairs (λ one other. one ≢ other) (names ++ name ∷ [])
name_new names name once absent = all_pairs_push (λ one other. one ≢ other) names name once
    (λ k d within same. true≢false (sym (list_any-from_Contains same_name_laws name names (k, within, get_or_default names k name d within ∙ same)) ∙ absent))

-- a blank line adds nothing
pub after_blank : (all : List (List ℕ)) (n m : ℕ) (line : List ℕ) (ifaces : List Iface) → n < length all → line ≡ get_or all n line → m ≡ n + 1
    → AreInterfaces (take n all) ifaces → line_words line ≡ [] → AreInterfaces (take m all) ifaces
after_blank all n m line ifaces within is more good blank =
    let same : written_lines (take m all) ≡ written_lines (take n all) =
    written_more all n m line within is more ∙ ap (λ words. written_lines (take n all) ++ filter has_some (words ∷ [])) blank ∙ append-nil (written_lines (take n all)) in
    record { read = subst (λ (rows : List (List (List ℕ))). Each IsInterface rows ifaces) (sym same) good.read; once = good.once }

interface_kept : (words : List (List ℕ)) (iface : Iface) → IsInterface words iface → filter has_some (words ∷ []) ≡ words ∷ []
interface_kept [] iface is = absurd is
interface_kept (_ ∷ _) iface is = refl

-- an interface whose name is new goes to the end
pub after_interface : (all : List (List ℕ)) (n m : ℕ) (line : List ℕ) (ifaces : List Iface) (iface : Iface) → n < length all → line ≡ get_or all n line
    → m ≡ n + 1 → AreInterfaces (take n all) ifaces → IsInterface (line_words line) iface → has_name (iface_names ifaces) iface.name ≡ false
    → AreInterfaces (take m all) (ifaces ++ iface ∷ [])
after_interface all n m line ifaces iface within is more good says absent =
    let rows = written_lines (take n all) in
    let pushed : written_lines (take m all) ≡ rows ++ line_words line ∷ [] =
    written_more all n m line within is more ∙ ap (λ last. rows ++ last) (interface_kept (line_words line) iface says) in
    record {
      read = subst (λ (all_rows : List (List (List ℕ))). Each IsInterface all_rows (ifaces ++ iface ∷ [])) (sym pushed)
          (Each-push IsInterface rows ifaces (line_words line) iface good.read says);
      once = subst (AllPairs (λ one other. one ≢ other)) (sym (map-append (λ (i : Iface). i.name) ifaces (iface ∷ [])))
          (name_new (iface_names ifaces) iface.name good.once absent);
    }

-- a line that isn't good behind good ones is the first
pub first_bad : (text : List ℕ) (n number at : ℕ) (line : List ℕ) (ifaces : List Iface) (fault : ConfFault) → n < length (file_lines text)
    → line ≡ get_or (file_lines text) n line → AreInterfaces (take n (file_lines text)) ifaces → IsBadBehind ifaces line → number ≡ n + 1
    → at ≡ bytes_of_lines (take n (file_lines text)) → fault ≡ record { span = record { line = number; col = 1; at = at; len = 1 }; fault = BadIfaceFile }
    → IsFirstBadIfaceLine text fault
first_bad text n number at line ifaces fault within is good bad counted start stands =
    let long : length (take n (file_lines text)) ≡ n = length-take-le n (file_lines text) (omega (arith, within)) in
    let counts : number ≡ length (take n (file_lines text)) + 1 = counted ∙ ap (λ k. k + 1) (sym long) in
    record {
      before = n;
      line = line;
      earlier = ifaces;
      there = slice_get_read (file_lines text) (length (file_lines text)) n line refl within is;
      good = good;
      bad = bad;
      stands = stands
          ∙ ap (λ k. record { span = record { line = k; col = 1; at = at; len = 1 }; fault = BadIfaceFile }) counts
          ∙ ap (λ k. record { span = record { line = length (take n (file_lines text)) + 1; col = 1; at = k; len = 1 }; fault = BadIfaceFile }) start;
    }

-- two addresses of one text are one, and so are two interfaces' names of one line
pub known_again : (words : List (List ℕ)) (iface : Iface) (ifaces : List Iface) → IsInterface words iface → has_name (iface_names ifaces) iface.name ≡ true
    → (words ≢ []) × ((other : Iface) → IsInterface words other → Contains (iface_names ifaces) other.name)
known_again [] iface ifaces says known = absurd says
known_again (word ∷ words) iface ifaces says known = (
  λ none. cc,
  λ other also. subst (Contains (iface_names ifaces)) (says.1 ∙ sym also.1) (name_known (iface_names ifaces) iface.name known),
)
