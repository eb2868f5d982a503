-- Lists that are sorted one after the other.
use Rattle.std.proofs.Common.{◌≡◌, ◌≢◌, ℕ, zero, suc, ◌+◌, ◌<◌, ◌≤◌, ◌∙◌, refl, sym, ap, subst, ⊎_elim, List, [], ◌∷◌, length, map, get_or, set, arith, get_or-set_same, get_or-set_other, Global, Vec}
use mathlib.Core.Option.{some, some-injective, some-ne-none}
use lib.ListN.{get_elem?}
use Rattle.std.{specs.Prelude.IsPermutation, proofs.lemmas.{Bool.cases_lt, List.{length-map, map-set}}}
use Rattle.npf_pieces.specs.declared.piece.Piece.{Piece}
use Rattle.npf_reass.{specs.{declared.offer.{Gathered.Gathered, Offer.Offer}, Listing.{IsByNumber, ListsClasses, SortsEach}}, proofs.CloseLemmas.HasOffers}

abbrev pub Offers : Type 0
Offers = List (ℕ × Piece)

abbrev pub Done : List Offers → List Offers → ℕ → Type 0
Done old new i = (k : ℕ) (d : Offers) → k < i → IsPermutation (get_or old k d) (get_or new k d) × IsByNumber (get_or new k d)

abbrev pub Rest : List Offers → List Offers → ℕ → Type 0
Rest old new i = (k : ℕ) (d : Offers) → i ≤ k → get_or new k d ≡ get_or old k d

pub done_more : (old new : List Offers) (i : ℕ) (x : Offers) → i < length new → Done old new i → Rest old new i
    → ((d : Offers) → IsPermutation (get_or new i d) x) → IsByNumber x → Done old (set new i x) (i + 1)
done_more old new i x inside done rest same sorted k d h = ⊎_elim
    (λ (lt : k < i). let ne : k ≢ i = omega arith in rw (get_or-set_other new i k x d ne) (done k d lt))
    (λ (le : i ≤ k).
    let here : i ≡ k = omega arith in
    subst (λ (n : ℕ). IsPermutation (get_or old n d) (get_or (set new i x) n d) × IsByNumber (get_or (set new i x) n d)) here
    (rw (get_or-set_same new i x d inside) (rw (rest i d (omega arith)) at (same d), sorted)))
    (cases_lt k i)

pub rest_more : (old new : List Offers) (i : ℕ) (x : Offers) → Rest old new i → Rest old (set new i x) (i + 1)
rest_more old new i x rest k d h = let ne : k ≢ i = omega arith in get_or-set_other new i k x d ne ∙ rest k d (omega arith)

abbrev pub items_of : Vec (ℕ × Piece) Global → Offers
items_of list = list.items

at_items : (lists : List (Vec (ℕ × Piece) Global)) (i : ℕ) (x : Vec (ℕ × Piece) Global) (d : Offers) → i < length lists → get_or (map items_of lists) i d ≡ (get_or lists i x).items
at_items [] i x d h = absurd (omega (arith, h))
at_items (y ∷ lists) zero x d h = refl
at_items (y ∷ lists) (suc i) x d h = at_items lists i x d (omega (arith, h))

pub sort_step : (old lists : List (Vec (ℕ × Piece) Global)) (i : ℕ) (x v : Vec (ℕ × Piece) Global) (sorted : Offers) → i < length lists
    → Done (map items_of old) (map items_of lists) i → Rest (map items_of old) (map items_of lists) i → v.items ≡ sorted
    → IsPermutation (get_or lists i x).items sorted → IsByNumber sorted
    → Done (map items_of old) (map items_of (set lists i v)) (i + 1) × Rest (map items_of old) (map items_of (set lists i v)) (i + 1)
sort_step old lists i x v sorted inside done rest is same by =
    let next : map items_of (set lists i v) ≡ set (map items_of lists) i sorted = map-set items_of lists i v ∙ ap (set (map items_of lists) i) is in
    let count = length-map lists items_of in
    rw next (
      done_more (map items_of old) (map items_of lists) i sorted (omega (arith, inside, count)) done rest (λ d. rw (at_items lists i x d inside) same) by,
      rest_more (map items_of old) (map items_of lists) i sorted rest,
    )

offers_at : (slots : List Gathered) (i : ℕ) (slot : Gathered) (d : Offers) → get_elem? slots i ≡ some slot
    → get_or (map items_of (map (λ slot. slot.offers) slots)) i d ≡ slot.offers.items
offers_at [] i slot d e = absurd (some-ne-none slot (sym e))
offers_at (x ∷ slots) zero slot d e = ap (λ (y : Gathered). y.offers.items) (some-injective x slot e)
offers_at (x ∷ slots) (suc i) slot d e = offers_at slots i slot d e

-- the lists of a closed object, once each is sorted
pub lists_so : (classes : ℕ) (history : List Offer) (slots : List Gathered) (new : List Offers) → length slots ≡ classes
    → ((class : ℕ) → class < classes → HasOffers classes slots history class) → SortsEach (map items_of (map (λ slot. slot.offers) slots)) new
    → ListsClasses classes history new
lists_so classes history slots new count has sorts =
    let inner = length-map slots (λ (slot : Gathered). slot.offers) in
    let outer = length-map (map (λ (slot : Gathered). slot.offers) slots) items_of in
    record {
      count = omega (arith, sorts.count, inner, outer, count);
      each = λ class d h.
          let here = has class h in
          let was = offers_at slots class here.slot d here.there in
          rw (was ∙ here.has) at (sorts.each class d (omega (arith, h, inner, outer, count)));
      sorted = sorts.sorted;
    }
