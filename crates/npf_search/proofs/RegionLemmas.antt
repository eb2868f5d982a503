-- What a region has once it is narrowed.
use Rattle.std.proofs.Common.{◌≡◌, ℕ, zero, suc, ◌+◌, ◌<◌, ◌≤◌, ◌==◌, ◌&&◌, ◌||◌, Bool, true, false, not, List, [], ◌∷◌, ◌++◌, append_assoc, refl, sym, ap, ◌∙◌, inl, inr, arith}
use Rattle.std.{specs.List.{All, list_any, range_with_len}, proofs.lemmas.List.{Elements.{All-append, All-cons, All-nil, All-same}, Folds.list_any-append}}
use Rattle.std.proofs.lemmas.Bool.{and_left, cases_eq, eq-eqb, ne_eqb}
use Rattle.npf_boxes.specs.declared.box_list.Boxes.{Boxes}
use Rattle.npf_boxes.specs.Cell.{any_has, in_box}
use Rattle.npf_search.specs.declared.decider.Decider.{Decider}
use Rattle.npf_search.specs.declared.region.Region.{Region}
use Rattle.npf_search.specs.Region.{decides, has_box, own_decides, region_has}

spread : (w o a l : Bool) → ((w && o) && not (a || l)) ≡ ((w && not a) && (o && not l))
spread false o a l = refl
spread true false true l = refl
spread true false false l = refl
spread true true true l = refl
spread true true false l = refl

module _ (boxes : Boxes) (old : Region) (decider : Decider) (cell : List ℕ) where
  earlier : Bool
  earlier = list_any (has_box boxes cell) (range_with_len decider.first decider.place)

  pub narrowed : (new : Region) → in_box boxes.shape new.words.items cell ≡ (in_box boxes.shape old.words.items cell && own_decides (has_box boxes cell) decider)
      → new.before.items ≡ old.before.items ++ range_with_len decider.first decider.place
      → region_has boxes new cell ≡ (region_has boxes old cell && decides (has_box boxes cell) decider)
  unfolding earlier
  narrowed new words before =
      let in_old = in_box boxes.shape old.words.items cell in
      let own = own_decides (has_box boxes cell) decider in
      let any = any_has boxes old.before.items cell in
      ap (λ b. b && not (any_has boxes new.before.items cell)) words
      ∙ ap (λ numbers. (in_old && own) && not (any_has boxes numbers cell)) before
      ∙ ap (λ b. (in_old && own) && not b) (list_any-append (has_box boxes cell) old.before.items (range_with_len decider.first decider.place))
      ∙ spread in_old own any earlier

  pub none_left : (in_box boxes.shape old.words.items cell && own_decides (has_box boxes cell) decider) ≡ false
      → (region_has boxes old cell && decides (has_box boxes cell) decider) ≡ false
  unfolding earlier
  none_left none =
      let in_old = in_box boxes.shape old.words.items cell in
      let own = own_decides (has_box boxes cell) decider in
      sym (spread in_old own (any_has boxes old.before.items cell) earlier) ∙ and_left (in_old && own) _ none

-- ---- the numbers of a list, one more
range_suc : (a n : ℕ) → range_with_len a (suc n) ≡ range_with_len a n ++ (a + n) ∷ []
range_suc a zero = ap (λ k. k ∷ []) (let e : a ≡ a + 0 = omega arith in e)
range_suc a (suc n) =
    ap (λ rest. a ∷ rest) (range_suc (a + 1) n)
    ∙ ap (λ k. a ∷ range_with_len (a + 1) n ++ k ∷ []) (let e : a + 1 + n ≡ a + suc n = omega arith in e)

pub range_more : (before : List ℕ) (a n : ℕ) → (before ++ range_with_len a n) ++ (a + n) ∷ [] ≡ before ++ range_with_len a (n + 1)
range_more before a n =
    append_assoc before (range_with_len a n) ((a + n) ∷ [])
    ∙ ap (λ rest. before ++ rest) (sym (range_suc a n) ∙ ap (range_with_len a) (let e : suc n ≡ n + 1 = omega arith in e))

all_below : (first n limit : ℕ) → first + n ≤ limit → All (λ k. k < limit) (range_with_len first n)
all_below first zero limit within = All-nil (λ k. k < limit)
all_below first (suc n) limit within = All-cons (λ k. k < limit) first (range_with_len (first + 1) n) (omega arith) (all_below (first + 1) n limit (omega arith))

pub known_more : (boxes : Boxes) (old new : List ℕ) (decider : Decider) → All (λ k. k < boxes.count) old → decider.first + decider.count ≤ boxes.count
    → new ≡ old ++ range_with_len decider.first decider.place → All (λ k. k < boxes.count) new
known_more boxes old new decider known within is =
    let earlier : All (λ k. k < boxes.count) (range_with_len decider.first decider.place) =
    all_below decider.first decider.place boxes.count (omega (arith, decider.within)) in
    All-same (λ k. k < boxes.count) new (old ++ range_with_len decider.first decider.place) is (All-append (λ k. k < boxes.count) old _ known earlier)

-- ---- tests that are equal at the numbers of a list decide alike
any_same : (f g : ℕ → Bool) (first n : ℕ) → ((k : ℕ) → first ≤ k → k < first + n → f k ≡ g k) → list_any f (range_with_len first n) ≡ list_any g (range_with_len first n)
any_same f g first zero same = refl
any_same f g first (suc n) same =
    ap (λ b. b || list_any f (range_with_len (first + 1) n)) (same first (omega arith) (omega arith))
    ∙ ap (λ b. g first || b) (any_same f g (first + 1) n (λ k low high. same k (omega arith) (omega arith)))

pub decides_same : (f g : ℕ → Bool) (decider : Decider) (limit : ℕ) → decider.first + decider.count ≤ limit → ((k : ℕ) → k < limit → f k ≡ g k)
    → decides f decider ≡ decides g decider
decides_same f g decider limit within same =
    ap (λ b. b && not (list_any f (range_with_len decider.first decider.place))) own
    ∙ ap (λ b. own_decides g decider && not b)
    (any_same f g decider.first decider.place (λ k low high. same k (omega (arith, decider.within))))
  where
    own : own_decides f decider ≡ own_decides g decider
    own = elim (cases_eq decider.place decider.count) [
      | inl last ↦
          ap (λ b. b || f (decider.first + decider.place)) (eq-eqb decider.place decider.count last)
          ∙ sym (ap (λ b. b || g (decider.first + decider.place)) (eq-eqb decider.place decider.count last))
      | inr other ↦ ap (λ b. (decider.place == decider.count) || b) (same (decider.first + decider.place) (omega (arith, decider.within)))
    ]
