-- Ranges and the intervals that they are.
use Rattle.std.proofs.Common.{◌≡◌, ◌≤◌, ◌<◌, ◌+◌, ◌-◌, ◌↔◌, ◌⊎◌, ℕ, List, [], ◌∷◌, ◌++◌, Contains, true, false, max, length, get_or, take, ap, inl, inr, ⊎_elim, sym, subst, ◌∙◌, arith}
use Rattle.std.specs.List.{All, Sorted.IsPartitionPoint, between}
use Rattle.std.proofs.{Math.Dec.{leb, ltb}, lemmas.{Bool.{cases_lt, leb-true, leb-false, ltb-true, ltb-false}, List.{get_or_append_left, get_or_at, get_or-take, length-take-le, length_push}}}
use Rattle.std.proofs.lemmas.List.{Edits.{get_or-between, length-between}, Elements.{Contains-append_left, Contains-get_or, Contains-push, Contains-push_cases}}
use Rattle.npf_cut.specs.{declared.{range.Range.Range, span.SetSpan.SetSpan}, Range.IsInRanges, Span.{IsIntervalOf, IsSpanned, IsSpanOf, IsSpanWithin}}
use Rattle.npf_cut.proofs.RangeLemmas.{in_at}

pub span_is : (starts : List ℕ) (range : Range) (from to : ℕ) → from ≤ length starts → to ≤ length starts
    → IsPartitionPoint (λ y. ltb y range.low ≡ true) (λ y. ltb y range.low ≡ false) starts from
    → IsPartitionPoint (λ y. leb y range.high ≡ true) (λ y. leb y range.high ≡ false) starts to
    → IsSpanOf starts range record { set = range.set; from = from; to = max to from }
span_is starts range from to few short low high = record {
  of = λ i. range.set;
  within = record { order = omega arith; most = omega arith };
  inside = λ k ge lt. (
    ltb-false _ range.low (low.1 k 0 ge (omega arith)),
    leb-true _ range.high (high.0 k 0 (omega arith) (omega arith)),
  );
  whole = λ k lt above below. (
    ⊎_elim (λ (early : k < from). let less = ltb-true _ range.low (low.0 k 0 (omega arith) early) in omega arith) (λ (h : from ≤ k). h) (cases_lt k from),
    ⊎_elim (λ (h : k < to). omega arith) (λ (late : to ≤ k). let more = leb-false _ range.high (high.1 k 0 late lt) in omega arith) (cases_lt k to),
  );
}

-- the spans are those of the first ranges, so many
pub record AreSpansOf (starts : List ℕ) (ranges : List Range) (spans : List SetSpan) (count : ℕ) : Type 0 where
  pub pairs : length spans ≡ count
  pub each : (k : ℕ) (d : Range) (e : SetSpan) → k < count → IsSpanOf starts (get_or ranges k d) (get_or spans k e)

pub spans_more : (starts : List ℕ) (ranges : List Range) (spans : List SetSpan) (count : ℕ) (range : Range) (span : SetSpan) → ((d : Range) → get_or ranges count d ≡ range)
    → IsSpanOf starts range span → AreSpansOf starts ranges spans count → AreSpansOf starts ranges (spans ++ span ∷ []) (count + 1)
spans_more starts ranges spans count range span is of had =
    let pairs : length spans ≡ count = had.pairs in
    record {
      pairs = length_push spans span ∙ ap (λ (n : ℕ). n + 1) pairs;
      each = λ k d e lt. ⊎_elim
          (λ (old : k < count).
          subst (λ (s : SetSpan). IsSpanOf starts (get_or ranges k d) s) (sym (get_or_append_left spans (span ∷ []) e k (omega arith))) (had.each k d e old))
          (λ (new : count ≤ k).
          let same : count ≡ k = omega arith in
          subst (λ (n : ℕ). IsSpanOf starts (get_or ranges n d) (get_or (spans ++ span ∷ []) n e)) same
          (subst (λ (r : Range). IsSpanOf starts r (get_or (spans ++ span ∷ []) count e)) (sym (is d))
          (subst (λ (s : SetSpan). IsSpanOf starts range s) (sym (get_or_at spans span [] e count pairs)) of)))
          (cases_lt k count);
    }

abbrev pub no_range : Range
no_range = record { set = 0; low = 0; high = 0 }

pub spans_within : (starts : List ℕ) (ranges : List Range) (spans : List SetSpan) → AreSpansOf starts ranges spans (length ranges) → All (IsSpanWithin (length starts)) spans
spans_within starts ranges spans had k e lt = let pairs = had.pairs in (had.each k no_range e (omega arith)).within

pub spans_same : (starts : List ℕ) (ranges : List Range) (spans : List SetSpan) → AreSpansOf starts ranges spans (length ranges)
    → (set interval : ℕ) → interval < length starts → IsIntervalOf spans set interval ↔ IsInRanges ranges set (get_or starts interval 0)
spans_same starts ranges spans had set interval lt = (
  λ h.
      let pairs = had.pairs in
      let at = h.among in
      let k : at.0 < length ranges = let less = at.1 in omega arith in
      let is : IsSpanOf starts (get_or ranges at.0 no_range) h.span = subst (λ (s : SetSpan). IsSpanOf starts (get_or ranges at.0 no_range) s) at.2 (had.each at.0 no_range h.span k) in
      let here = is.inside interval h.from h.to in
      in_at ranges at.0 no_range set (get_or starts interval 0) k record { of = sym is.of ∙ h.of; low = here.0; high = here.1 },
  λ h.
      let pairs = had.pairs in
      let at = h.among in
      let k : at.0 < length spans = let less = at.1 in omega arith in
      let e : SetSpan = record { set = 0; from = 0; to = 0 } in
      let is : IsSpanOf starts h.range (get_or spans at.0 e) = subst (λ (r : Range). IsSpanOf starts r (get_or spans at.0 e)) at.2 (had.each at.0 h.range e at.1) in
      let here = is.whole interval lt h.low h.high in
      record { span = get_or spans at.0 e; among = Contains-get_or spans at.0 e k; of = is.of ∙ h.of; from = here.0; to = here.1 },
)

-- an interval through the spans of a list, one after the other
pub spanned_old : (xs : List SetSpan) (y : SetSpan) (k : ℕ) → IsSpanned xs k → IsSpanned (xs ++ y ∷ []) k
spanned_old xs y k h = record { span = h.span; among = Contains-append_left xs (y ∷ []) h.span h.among; from = h.from; to = h.to }

pub spanned_new : (xs : List SetSpan) (y : SetSpan) (k : ℕ) → y.from ≤ k → k < y.to → IsSpanned (xs ++ y ∷ []) k
spanned_new xs y k from to = record { span = y; among = Contains-push xs y; from = from; to = to }

pub spanned_cases : (xs : List SetSpan) (y : SetSpan) (k : ℕ) → IsSpanned (xs ++ y ∷ []) k → IsSpanned xs k ⊎ ((y.from ≤ k) × (k < y.to))
spanned_cases xs y k h = ⊎_elim
    (λ (old : Contains xs h.span). inl record { span = h.span; among = old; from = h.from; to = h.to })
    (λ (is : y ≡ h.span). inr (subst (λ (s : SetSpan). (s.from ≤ k) × (k < s.to)) (sym is) (h.from, h.to)))
    (Contains-push_cases xs y h.span h.among)

-- what the first spans have, and what those from a place to another have
pub among_first : {X : Type 0} (xs : List X) (n k : ℕ) (x : X) → n ≤ length xs → k < n → get_or xs k x ≡ x → Contains (take n xs) x
among_first xs n k x most lt is =
    let long : length (take n xs) ≡ n = length-take-le n xs most in
    (k, omega arith, get_or-take n xs k x lt ∙ is)

pub first_among : {X : Type 0} (xs : List X) (n : ℕ) (x : X) → n ≤ length xs → Contains (take n xs) x → (k : ℕ) × (k < n) × (get_or xs k x ≡ x)
first_among xs n x most h =
    let long : length (take n xs) ≡ n = length-take-le n xs most in
    let lt : h.0 < n = let less = h.1 in omega arith in
    (h.0, lt, sym (get_or-take n xs h.0 x lt) ∙ h.2)

pub among_between : {X : Type 0} (xs : List X) (i j k : ℕ) (x : X) → j ≤ length xs → i ≤ k → k < j → get_or xs k x ≡ x → Contains (between i j xs) x
among_between xs i j k x most ge lt is =
    let long : length (between i j xs) ≡ j - i = length-between xs i j most in
    let back : i + (k - i) ≡ k = omega arith in
    (k - i, omega arith, get_or-between xs i j (k - i) x (omega arith) ∙ ap (λ (n : ℕ). get_or xs n x) back ∙ is)

pub between_among : {X : Type 0} (xs : List X) (i j : ℕ) (x : X) → j ≤ length xs → Contains (between i j xs) x → (k : ℕ) × (i ≤ k) × (k < j) × (get_or xs k x ≡ x)
between_among xs i j x most h =
    let long : length (between i j xs) ≡ j - i = length-between xs i j most in
    let lt : i + h.0 < j = let less = h.1 in omega arith in
    (i + h.0, omega arith, lt, sym (get_or-between xs i j h.0 x lt) ∙ h.2)
