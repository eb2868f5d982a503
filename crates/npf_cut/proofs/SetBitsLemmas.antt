-- The bits of sets through the numbers that are put into them.
use Rattle.std.proofs.Common.{◌≡◌, ◌≤◌, ◌<◌, ◌+◌, ◌-◌, ◌*◌, ◌/◌, ◌%◌, ◌==◌, ◌||◌, ◌↔◌, ◌⊎◌, ℕ, Bool, true, List, [], ◌∷◌, ◌++◌, Contains, length}
use Rattle.std.proofs.Common.{get_or, take, drop, vec_len, ap, inl, inr, ⊎_elim, sym, subst, ◌∙◌, arith, refl}
use Rattle.std.{specs.List.{All, between}, proofs.Math.Nat.mul-le-mul_right}
use Rattle.std.proofs.lemmas.{Bool.{both_ways, cases_lt, eq-eqb, eqb-true, or_cases, or_left, or_right}, List.{get_or-take, get_or-drop, get_or_default, length-take}}
use Rattle.std.proofs.lemmas.List.Elements.{All-contains, Contains-append_left, Contains-push, Contains-push_cases}
use Rattle.npf_bits.{specs.Bits.has, proofs.BitLemmas.has_past}
use Rattle.npf_cut.specs.{Dimension.{HasClass, IsClassOf, class_count}, SetBits.{has_class, set_words}, Span.IsSpanWithin}
use Rattle.npf_cut.specs.declared.{set_bits.SetBits.SetBits, dimension.Dimension.Dimension, span.SetSpan.SetSpan}
use Rattle.npf_cut.proofs.SpanLemmas.{among_between, between_among}

-- a number more is in the set
pub has_more : (now next old : ℕ → Bool) (xs : List ℕ) (first number : ℕ) → ((n : ℕ) → next n ≡ (n == first + number || now n))
    → ((n : ℕ) → (now n ≡ true) ↔ ((old n ≡ true) ⊎ ((first ≤ n) × Contains xs (n - first))))
    → (n : ℕ) → (next n ≡ true) ↔ ((old n ≡ true) ⊎ ((first ≤ n) × Contains (xs ++ number ∷ []) (n - first)))
has_more now next old xs first number step inv n = (
  λ h. ⊎_elim
      (λ (new : (n == first + number) ≡ true).
      let e : n ≡ first + number = eqb-true n (first + number) new in
      inr (omega arith, subst (λ (m : ℕ). Contains (xs ++ number ∷ []) m) (let back : number ≡ n - first = omega arith in back) (Contains-push xs number)))
      (λ (old' : now n ≡ true). ⊎_elim (λ (a : old n ≡ true). inl a)
      (λ (b : (first ≤ n) × Contains xs (n - first)). inr (b.0, Contains-append_left xs (number ∷ []) (n - first) b.1)) ((inv n).0 old'))
      (or_cases (n == first + number) (now n) (sym (step n) ∙ h)),
  λ h. step n ∙ ⊎_elim
      (λ (a : old n ≡ true). or_right (n == first + number) (now n) ((inv n).1 (inl a)))
      (λ (b : (first ≤ n) × Contains (xs ++ number ∷ []) (n - first)). ⊎_elim
      (λ (among : Contains xs (n - first)). or_right (n == first + number) (now n) ((inv n).1 (inr (b.0, among))))
      (λ (is : number ≡ n - first). or_left (n == first + number) (now n) (eq-eqb n (first + number) (let le = b.0 in omega arith)))
      (Contains-push_cases xs number (n - first) b.1))
      h,
)

-- two places in the rows of sets are of one set and one class
same_place : (p s set k class : ℕ) → k < 64 * p → class < 64 * p → 64 * (s * p) + k ≡ 64 * (set * p) + class → (s ≡ set) × (k ≡ class)
same_place p s set k class small short e =
    let same : s ≡ set = ⊎_elim
    (λ (lt : s < set). let row : (s + 1) * p ≤ set * p = mul-le-mul_right p (let le : s + 1 ≤ set = omega arith in le) in omega arith)
    (λ (ge : set ≤ s). ⊎_elim
    (λ (gt : set < s). let row : (set + 1) * p ≤ s * p = mul-le-mul_right p (let le : set + 1 ≤ s = omega arith in le) in omega arith)
    (λ (le : s ≤ set). omega arith)
    (cases_lt set s))
    (cases_lt s set) in
    let row : s * p ≡ set * p = ap (λ (n : ℕ). n * p) same in
    (same, omega arith)

-- what is put behind the first place of a set is put into the set
pub put_row : (p s set k : ℕ) (classes : List ℕ) → k < 64 * p → All (λ class. class < 64 * p) classes
    → ((64 * (set * p) ≤ 64 * (s * p) + k) × Contains classes (64 * (s * p) + k - 64 * (set * p))) ↔ ((s ≡ set) × Contains classes k)
put_row p s set k classes small short = (
  λ h.
      let le = h.0 in
      let class : ℕ = 64 * (s * p) + k - 64 * (set * p) in
      let e : 64 * (s * p) + k ≡ 64 * (set * p) + (64 * (s * p) + k - 64 * (set * p)) = omega arith in
      let place = same_place p s set k class small (All-contains (λ c. c < 64 * p) classes class short h.1) e in
      (place.0, subst (λ (c : ℕ). Contains classes c) (sym place.1) h.1),
  λ h.
      let row : s * p ≡ set * p = ap (λ (n : ℕ). n * p) h.0 in
      let back : k ≡ 64 * (s * p) + k - 64 * (set * p) = omega arith in
      (omega arith, subst (λ (c : ℕ). Contains classes c) back h.1),
)

-- what is put behind the first place of a set is in the set's own words
pub put_is : (p s set k : ℕ) (old new : Bool) (classes : List ℕ) → k < 64 * p → All (λ class. class < 64 * p) classes
    → (new ≡ true) ↔ ((old ≡ true) ⊎ ((64 * (set * p) ≤ 64 * (s * p) + k) × Contains classes (64 * (s * p) + k - 64 * (set * p))))
    → (new ≡ true) ↔ ((old ≡ true) ⊎ ((s ≡ set) × Contains classes k))
put_is p s set k old new classes small short put =
    let row = put_row p s set k classes small short in (
      λ h. ⊎_elim (λ (a : old ≡ true). inl a)
          (λ (b : (64 * (set * p) ≤ 64 * (s * p) + k) × Contains classes (64 * (s * p) + k - 64 * (set * p))). inr (row.0 b)) (put.0 h),
      λ h. put.1 (⊎_elim (λ (a : old ≡ true). inl a) (λ (b : (s ≡ set) × Contains classes k). inr (row.1 b)) h),
    )

-- the words of a set have what the row of all words has at the set
pub words_has : (words : List ℕ) (p set k : ℕ) → k < 64 * p → has (take p (drop (set * p) words)) k ≡ has words (64 * (set * p) + k)
unfolding has
words_has words p set k small =
    let m : ℕ = set * p in
    let low : k / 64 < p = omega arith in
    let quotient : (64 * m + k) / 64 ≡ m + k / 64 = omega arith in
    let rest : (64 * m + k) % 64 ≡ k % 64 = omega arith in
    let word : get_or (take p (drop m words)) (k / 64) 0 ≡ get_or words ((64 * m + k) / 64) 0 =
    get_or-take p (drop m words) (k / 64) 0 low ∙ get_or-drop m words (k / 64) 0 ∙ ap (λ (n : ℕ). get_or words n 0) (sym quotient) in
    rw word (rw rest refl)

-- a span more has its classes
pub class_cases : (classes : List ℕ) (xs : List SetSpan) (y : SetSpan) (set class : ℕ) → y.to ≤ length classes → IsClassOf classes (xs ++ y ∷ []) set class
    → IsClassOf classes xs set class ⊎ ((set ≡ y.set) × Contains (between y.from y.to classes) class)
class_cases classes xs y set class most h =
    let of = h.of_set in
    ⊎_elim
    (λ (old : Contains xs of.span). inl record {
      interval = h.interval;
      of_set = record { span = of.span; among = old; of = of.of; from = of.from; to = of.to };
      of_class = h.of_class;
    })
    (λ (is : y ≡ of.span).
    let from : y.from ≤ h.interval = subst (λ (s : SetSpan). s.from ≤ h.interval) (sym is) of.from in
    let to : h.interval < y.to = subst (λ (s : SetSpan). h.interval < s.to) (sym is) of.to in
    inr (
      sym of.of ∙ ap (λ (s : SetSpan). s.set) (sym is),
      among_between classes y.from y.to h.interval class most from to (get_or_default classes h.interval class 0 (omega arith) ∙ h.of_class),
    ))
    (Contains-push_cases xs y of.span of.among)

pub class_old : (classes : List ℕ) (xs : List SetSpan) (y : SetSpan) (set class : ℕ) → IsClassOf classes xs set class → IsClassOf classes (xs ++ y ∷ []) set class
class_old classes xs y set class h =
    let of = h.of_set in
    record {
      interval = h.interval;
      of_set = record { span = of.span; among = Contains-append_left xs (y ∷ []) of.span of.among; of = of.of; from = of.from; to = of.to };
      of_class = h.of_class;
    }

pub class_new : (classes : List ℕ) (xs : List SetSpan) (y : SetSpan) (set class : ℕ) → y.to ≤ length classes → set ≡ y.set → Contains (between y.from y.to classes) class
    → IsClassOf classes (xs ++ y ∷ []) set class
class_new classes xs y set class most of among =
    let at = between_among classes y.from y.to class most among in
    record {
      interval = at.0;
      of_set = record { span = y; among = Contains-push xs y; of = sym of; from = at.1; to = at.2 };
      of_class = get_or_default classes at.0 0 class (let lt = at.2 in omega arith) ∙ at.3;
    }

-- the bits with a span more
pub bits_more : (now next : SetBits) (sets : ℕ) (classes : List ℕ) (xs : List SetSpan) (y : SetSpan) → now.sets ≡ sets → y.to ≤ length classes
    → ((s class : ℕ) → s < now.sets → class < 64 * now.per_set
    → (has_class next s class ≡ true) ↔ ((has_class now s class ≡ true) ⊎ ((s ≡ y.set) × Contains (between y.from y.to classes) class)))
    → ((s class : ℕ) → s < sets → class < 64 * now.per_set → (has_class now s class ≡ true) ↔ IsClassOf classes xs s class)
    → (s class : ℕ) → s < sets → class < 64 * now.per_set → (has_class next s class ≡ true) ↔ IsClassOf classes (xs ++ y ∷ []) s class
bits_more now next sets classes xs y same most step inv s class lt less =
    let put = step s class (omega arith) less in (
      λ h. ⊎_elim (λ (a : has_class now s class ≡ true). class_old classes xs y s class ((inv s class lt less).0 a))
          (λ (b : (s ≡ y.set) × Contains (between y.from y.to classes) class). class_new classes xs y s class most b.0 b.1) (put.0 h),
      λ h. put.1 (⊎_elim (λ (a : IsClassOf classes xs s class). inl ((inv s class lt less).1 a))
          (λ (b : (s ≡ y.set) × Contains (between y.from y.to classes) class). inr b) (class_cases classes xs y s class most h)),
    )

-- a class of a set is one of the classes
pub class_below : (cut : Dimension) (set class : ℕ) → HasClass cut set class → class < class_count cut
class_below cut set class h =
    let of = h.of_set in
    let span : SetSpan = of.span in
    let most : IsSpanWithin (vec_len cut.starts) span = subst (λ (s : SetSpan). IsSpanWithin (vec_len cut.starts) s) of.among.2 (cut.within of.among.0 span of.among.1) in
    let lt : h.interval < length cut.classes.items = let a = of.to in let b = most.most in let pairs = cut.paired in let ok = cut.classes.ok in omega arith in
    subst (λ (c : ℕ). c < class_count cut) h.of_class (cut.firsts_are.below h.interval 0 lt)

-- the words of a set have its classes, and nothing else
pub words_are : (cut : Dimension) (bits : SetBits) (set : ℕ) → class_count cut ≤ 64 * bits.per_set
    → ((class : ℕ) → class < 64 * bits.per_set → (has_class bits set class ≡ true) ↔ HasClass cut set class)
    → (class : ℕ) → (has (set_words bits set) class ≡ true) ↔ HasClass cut set class
words_are cut bits set fits inv class = ⊎_elim
    (λ (lt : class < 64 * bits.per_set).
    subst (λ (b : Bool). (b ≡ true) ↔ HasClass cut set class) (sym (words_has bits.words.items bits.per_set set class lt)) (inv class lt))
    (λ (ge : 64 * bits.per_set ≤ class).
    let short : length (set_words bits set) ≤ bits.per_set = rw length-take (omega arith) in
    (λ h. absurd (both_ways _ (has_past (set_words bits set) class (omega arith)) h), λ h. let lt = class_below cut set class h in absurd (omega arith)))
    (cases_lt class (64 * bits.per_set))
