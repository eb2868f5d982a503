-- A piece is in one of the sets of its key alone: they are parts of its pieces, whose places rise.
use Rattle.std.proofs.Common.{if◌then◌else◌, ◌≡◌, ℕ, ◌<◌, ◌∙◌, ⊎_elim, Bool, true, false, refl, sym, ap, subst}
use Rattle.std.{proofs.Common.{nat_eq, Option, Some, None, List, [], ◌∷◌, ◌++◌, map, append_assoc, append-nil, arith}, specs.Prelude.Contains}
use Rattle.std.{specs.Cmp.Lexicographic.pointwise, proofs.lemmas.List.Elements.{Contains-append_left, Contains-append_right, filter_agree, filter_passes}}
use Rattle.npf_shelf.proofs.ListLemmas.{Contains-cons_cases}
use Rattle.npf_pieces.specs.declared.{arrived.{Arrived.Arrived, Ending.Ending}, piece.{FragKey.FragKey, Piece.Piece}}
use Rattle.npf_pieces.specs.Sets.{Set, ended_by, ending_with, is_late, sets_from, unfinished}
use Rattle.npf_reass_sets.{specs.{Among.arrived_from, Key.{is_frag_key, key_numbers, of_key}}, proofs.RiseLemmas.{AreAbove, Rise, rise_filter}}
use Rattle.npf_reass_run.{specs.{Laws.OneSet, Offer.placed}, proofs.{FilterLemmas.filter_map_same, GatherLemmas.{number_of, rise_from}}}
use Rattle.npf_reass_run.proofs.ShareLemmas.{same_numbers}

-- the sets' pieces, one set after the other
abbrev all_pieces : List Set → List Arrived
all_pieces [] = []
all_pieces (set ∷ sets) = set.pieces ++ all_pieces sets

pieces_append : (xs ys : List Set) → all_pieces (xs ++ ys) ≡ all_pieces xs ++ all_pieces ys
pieces_append [] ys = refl
pieces_append (set ∷ xs) ys =
    ap (λ (l : List Arrived). set.pieces ++ l) (pieces_append xs ys)
    ∙ sym (append_assoc set.pieces (all_pieces xs) (all_pieces ys))

unfinished_pieces : (begun : List Arrived) → all_pieces (unfinished begun) ≡ begun
unfinished_pieces [] = refl
unfinished_pieces (a ∷ begun) = append-nil (a ∷ begun)

module _ (rest : List Arrived)
    (more : (begun : List Arrived) → all_pieces (sets_from begun rest) ≡ begun ++ rest) where
  abbrev behind : List Arrived → Option Ending → List Set
  behind = ended_by (λ next. sets_from next rest)

  ended_pieces : (set : List Arrived) (ending : Option Ending)
      → all_pieces (behind set ending) ≡ set ++ rest
  ended_pieces set None = more set
  ended_pieces set (Some ending) = ap (λ (l : List Arrived). set ++ l) (more [])

  by_time : (begun : List Arrived) (a : Arrived) (late : Bool)
      → all_pieces (if late then unfinished begun ++ behind (a ∷ []) (ending_with [] a)
      else behind (begun ++ a ∷ []) (ending_with begun a)) ≡ begun ++ a ∷ rest
  by_time begun a true =
      let next = behind (a ∷ []) (ending_with [] a) in
      pieces_append (unfinished begun) next
      ∙ ap (λ (l : List Arrived). l ++ all_pieces next) (unfinished_pieces begun)
      ∙ ap (λ (l : List Arrived). begun ++ l) (ended_pieces (a ∷ []) (ending_with [] a))
  by_time begun a false =
      ended_pieces (begun ++ a ∷ []) (ending_with begun a) ∙ append_assoc begun (a ∷ []) rest

-- the sets are parts of the pieces, one behind the other
set_pieces : (rest begun : List Arrived) → all_pieces (sets_from begun rest) ≡ begun ++ rest
set_pieces [] begun = unfinished_pieces begun ∙ sym (append-nil begun)
set_pieces (a ∷ rest) begun = by_time rest (set_pieces rest) begun a (is_late begun a)

-- of places that rise each stands once
above_all : (low : ℕ) (xs : List Arrived) (a : Arrived) → AreAbove number_of low (map placed xs)
    → Contains xs a → low < a.place
above_all low [] a above c = absurd (omega (arith, c.1))
above_all low (x ∷ xs) a above c = ⊎_elim
    (λ (e : x ≡ a). subst (λ (y : Arrived). low < y.place) e above.0)
    (λ (k : Contains xs a). above_all low xs a above.1 k)
    (Contains-cons_cases x a xs c)

rise_apart : (xs ys : List Arrived) (a b : Arrived) → Rise number_of (map placed (xs ++ ys))
    → Contains xs a → Contains ys b → a.place < b.place
rise_apart [] ys a b rise c d = absurd (omega (arith, c.1))
rise_apart (x ∷ xs) ys a b rise c d =
    let above = above_all x.place (xs ++ ys) b rise.0 (Contains-append_right xs ys b d) in
    ⊎_elim
    (λ (e : x ≡ a). subst (λ (y : Arrived). y.place < b.place) e above)
    (λ (k : Contains xs a). rise_apart xs ys a b rise.1 k d)
    (Contains-cons_cases x a xs c)

rise_behind : (xs ys : List Arrived) → Rise number_of (map placed (xs ++ ys)) → Rise number_of (map placed ys)
rise_behind [] ys rise = rise
rise_behind (x ∷ xs) ys rise = rise_behind xs ys rise.1

in_pieces : (sets : List Set) (set : Set) (a : Arrived) → Contains sets set
    → Contains set.pieces a → Contains (all_pieces sets) a
in_pieces [] set a among has = absurd (omega (arith, among.1))
in_pieces (s ∷ sets) set a among has = ⊎_elim
    (λ (e : s ≡ set). Contains-append_left s.pieces (all_pieces sets) a
    (subst (λ (t : Set). Contains t.pieces a) (sym e) has))
    (λ (k : Contains sets set). Contains-append_right s.pieces (all_pieces sets) a
    (in_pieces sets set a k has))
    (Contains-cons_cases s set sets among)

-- a piece of the first set isn't in one of the others
in_first : (s : Set) (sets : List Set) (set other : Set) (a : Arrived)
    → Rise number_of (map placed (s.pieces ++ all_pieces sets)) → s ≡ set → Contains sets other
    → Contains set.pieces a → Contains other.pieces a → ⊥
in_first s sets set other a rise e k has too =
    let here = subst (λ (t : Set). Contains t.pieces a) (sym e) has in
    let there = in_pieces sets other a k too in
    let less = rise_apart s.pieces (all_pieces sets) a a rise here there in
    omega (arith, less)

one_of : (sets : List Set) (set other : Set) (a : Arrived) → Rise number_of (map placed (all_pieces sets))
    → Contains sets set → Contains sets other → Contains set.pieces a → Contains other.pieces a
    → set ≡ other
one_of [] set other a rise among also has too = absurd (omega (arith, among.1))
one_of (s ∷ sets) set other a rise among also has too =
    let behind = rise_behind s.pieces (all_pieces sets) rise in
    ⊎_elim
    (λ (e : s ≡ set). ⊎_elim
    (λ (f : s ≡ other). sym e ∙ f)
    (λ (k : Contains sets other). absurd (in_first s sets set other a rise e k has too))
    (Contains-cons_cases s other sets also))
    (λ (j : Contains sets set). ⊎_elim
    (λ (f : s ≡ other). absurd (in_first s sets other set a rise f j too has))
    (λ (k : Contains sets other). one_of sets set other a behind j k has too)
    (Contains-cons_cases s other sets also))
    (Contains-cons_cases s set sets among)

-- a piece of a set is of the set's key
of_its_key : (key : FragKey) (arrived : List Arrived) (set : Set) (a : Arrived)
    → Contains (sets_from [] (of_key key arrived)) set → Contains set.pieces a
    → key_numbers key ≡ key_numbers a.piece.key
of_its_key key arrived set a among has =
    let all = in_pieces (sets_from [] (of_key key arrived)) set a among has in
    let c = subst (λ (l : List Arrived). Contains l a) (set_pieces (of_key key arrived) []) all in
    let passes = filter_passes (λ (b : Arrived). is_frag_key key b.piece.key) arrived c.0 a c.1 in
    same_numbers (key_numbers key) (key_numbers a.piece.key)
    (subst (λ (b : Arrived). is_frag_key key b.piece.key ≡ true) c.2 passes)

pub set_alone : OneSet
set_alone packets seens a set other is also has too =
    let arrived = arrived_from 0 packets seens in
    let mine = of_key is.key arrived in
    let numbers = of_its_key also.key arrived other a also.is too
    ∙ sym (of_its_key is.key arrived set a is.is has) in
    let same : of_key also.key arrived ≡ mine =
    filter_agree (λ b. is_frag_key also.key b.piece.key) (λ b. is_frag_key is.key b.piece.key)
    (λ b. ap (λ (list : List ℕ). pointwise nat_eq list (key_numbers b.piece.key)) numbers)
    arrived in
    let test = λ (o : ℕ × Piece). is_frag_key is.key o.1.key in
    let rise : Rise number_of (map placed mine) =
    subst (Rise number_of) (filter_map_same placed test arrived)
    (rise_filter number_of test (map placed arrived) (rise_from 0 packets seens)) in
    one_of (sets_from [] mine) set other a
    (subst (λ (l : List Arrived). Rise number_of (map placed l)) (sym (set_pieces mine [])) rise) is.is
    (subst (λ (l : List Arrived). Contains (sets_from [] l) other) same also.is) has too
