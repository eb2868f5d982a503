-- The starts of intervals, and the interval of a number.
use Rattle.std.proofs.Common.{◌≡◌, ◌≤◌, ◌<◌, ◌+◌, ◌-◌, ◌↔◌, ℕ, List, Contains, true, false, length, get_or, ap, ⊎_elim, sym, subst, ◌∙◌, arith}
use Rattle.std.specs.List.{All, AllPairs, prefix_len, Sorted.{IsNonDecreasing, IsPartitionPoint}}
use Rattle.std.proofs.{Math.Dec.leb, lemmas.{Bool.{cases_lt, cases_order, leb-true, leb-false}, List.get_or_default}}
use Rattle.std.proofs.lemmas.List.{Elements.All-contains, Sums.{prefix_len-le-length, prefix_len_is, prefix_len_passes, prefix_len_stops}}
use Rattle.npf_cut.specs.{declared.range.Range.Range, Range.IsInRanges, Start.{AreStarts, HasStarts, interval_of}}

-- the starts have the ends of the first ranges, so many
pub record HasStartsTo (top : ℕ) (ranges : List Range) (starts : List ℕ) (count : ℕ) : Type 0 where
  pub zero : Contains starts 0
  pub below : All (λ start. start ≤ top) starts
  pub begins : (k : ℕ) (d : Range) → k < count → (get_or ranges k d).low ≤ top → Contains starts (get_or ranges k d).low
  pub ends : (k : ℕ) (d : Range) → k < count → (get_or ranges k d).high < top → Contains starts ((get_or ranges k d).high + 1)

-- all ends are there where those of all ranges are
pub starts_all : (top : ℕ) (ranges : List Range) (starts : List ℕ) → HasStartsTo top ranges starts (length ranges) → HasStarts top ranges starts
starts_all top ranges starts had = record {
  zero = had.zero;
  below = had.below;
  begins = λ range among le.
      subst (λ (r : Range). Contains starts r.low) among.2
      (had.begins among.0 range among.1 (subst (λ (r : Range). r.low ≤ top) (sym among.2) le));
  ends = λ range among lt.
      subst (λ (r : Range). Contains starts (r.high + 1)) among.2
      (had.ends among.0 range among.1 (subst (λ (r : Range). r.high < top) (sym among.2) lt));
}

-- the ends of a range more, which stand among the starts in two steps
pub starts_more : (top : ℕ) (ranges : List Range) (xs ys zs : List ℕ) (count : ℕ) (range : Range) → ((d : Range) → get_or ranges count d ≡ range)
    → HasStartsTo top ranges xs count
    → ((x : ℕ) → Contains xs x → Contains ys x) → (range.low ≤ top → Contains ys range.low) → (All (λ start. start ≤ top) xs → All (λ start. start ≤ top) ys)
    → ((x : ℕ) → Contains ys x → Contains zs x) → (range.high < top → Contains zs (range.high + 1)) → (All (λ start. start ≤ top) ys → All (λ start. start ≤ top) zs)
    → HasStartsTo top ranges zs (count + 1)
starts_more top ranges xs ys zs count range is had kept low below kept' high below' = record {
  zero = kept' 0 (kept 0 had.zero);
  below = below' (below had.below);
  begins = λ k d lt le. ⊎_elim
      (λ (old : k < count). kept' _ (kept _ (had.begins k d old le)))
      (λ (new : count ≤ k).
      let here : get_or ranges k d ≡ range = ap (λ (n : ℕ). get_or ranges n d) (let same : k ≡ count = omega arith in same) ∙ is d in
      subst (λ (r : Range). Contains zs r.low) (sym here) (kept' range.low (low (subst (λ (r : Range). r.low ≤ top) here le))))
      (cases_lt k count);
  ends = λ k d lt less. ⊎_elim
      (λ (old : k < count). kept' _ (kept _ (had.ends k d old less)))
      (λ (new : count ≤ k).
      let here : get_or ranges k d ≡ range = ap (λ (n : ℕ). get_or ranges n d) (let same : k ≡ count = omega arith in same) ∙ is d in
      subst (λ (r : Range). Contains zs (r.high + 1)) (sym here) (high (subst (λ (r : Range). r.high < top) here less)))
      (cases_lt k count);
}

pub non_decreasing : (xs : List ℕ) → AllPairs (λ a b. a < b) xs → IsNonDecreasing xs
non_decreasing xs up i j d le lt = ⊎_elim
    (λ (same : i ≡ j). let e : get_or xs i d ≡ get_or xs j d = ap (λ (n : ℕ). get_or xs n d) same in omega arith)
    (λ h. ⊎_elim (λ (less : i < j). let l = up i j d less lt in omega arith) (λ (more : j < i). omega arith) h)
    (cases_order i j)

-- what moves a start to a list in order
pub starts_moved : (top : ℕ) (ranges : List Range) (xs ys : List ℕ) → ((x : ℕ) → Contains xs x → Contains ys x) → ((x : ℕ) → Contains ys x → Contains xs x)
    → HasStarts top ranges xs → HasStarts top ranges ys
starts_moved top ranges xs ys to back had = record {
  zero = to 0 had.zero;
  below = λ k d lt. All-contains (λ start. start ≤ top) xs (get_or ys k d) had.below (back (get_or ys k d) (k, lt, get_or_default ys k (get_or ys k d) d lt));
  begins = λ range among le. to range.low (had.begins range among le);
  ends = λ range among lt. to (range.high + 1) (had.ends range among lt);
}

-- the interval of a number is the last that starts at or below it
pub record IsLastAt (starts : List ℕ) (number interval : ℕ) : Type 0 where
  pub within : interval < length starts
  pub low : get_or starts interval 0 ≤ number
  pub last : (k : ℕ) → k < length starts → get_or starts k 0 ≤ number → k ≤ interval

module _ (starts : List ℕ) (up : AllPairs (λ a b. a < b) starts) (some : 0 < length starts) (zero : get_or starts 0 0 ≡ 0) (number : ℕ) where
  abbrev pub count : ℕ
  count = prefix_len (λ start. leb start number) starts

  -- the first start is at or below each number
  more : 0 < count
  more = ⊎_elim (λ (h : 0 < count). h)
      (λ (none : count ≤ 0).
      let e : count ≡ 0 = omega arith in
      let stops : leb (get_or starts count 0) number ≡ false = prefix_len_stops (λ start. leb start number) starts 0 (omega arith) in
      let above : number < get_or starts count 0 = leb-false _ number stops in
      let at : get_or starts count 0 ≡ 0 = ap (λ (n : ℕ). get_or starts n 0) e ∙ zero in
      omega arith)
      (cases_lt 0 count)

  pub last_at : IsLastAt starts number (interval_of starts number)
  last_at =
      let most : count ≤ length starts = prefix_len-le-length (λ start. leb start number) starts in
      let some' : 0 < count = more in
      record {
        within = omega arith;
        low = leb-true _ number (prefix_len_passes (λ start. leb start number) starts (count - 1) 0 (omega arith));
        last = λ k lt le. ⊎_elim (λ (h : k < count). omega arith)
            (λ (ge : count ≤ k).
            let stops : leb (get_or starts count 0) number ≡ false = prefix_len_stops (λ start. leb start number) starts 0 (omega arith) in
            let above : number < get_or starts count 0 = leb-false _ number stops in
            let rise : get_or starts count 0 ≤ get_or starts k 0 = non_decreasing starts up count k 0 ge lt in
            omega arith)
            (cases_lt k count);
      }

  -- the interval is where the search ends
  pub count_is : (i : ℕ) → i ≤ length starts → IsPartitionPoint (λ y. leb y number ≡ true) (λ y. leb y number ≡ false) starts i → count ≡ i
  count_is i most point = prefix_len_is (λ start. leb start number) starts i 0 most (λ k lt. point.0 k 0 (omega arith) lt) (λ lt. point.1 i 0 (omega arith) lt)

  pub searched_interval : (i : ℕ) → i ≤ length starts → IsPartitionPoint (λ y. leb y number ≡ true) (λ y. leb y number ≡ false) starts i
      → (interval_of starts number ≡ i - 1) × (0 < i)
  searched_interval i most point =
      let e : count ≡ i = count_is i most point in
      let some' : 0 < count = more in
      (ap (λ (n : ℕ). n - 1) e, omega arith)

-- the interval that starts at a number is its interval
pub interval_at : (starts : List ℕ) → AllPairs (λ a b. a < b) starts → 0 < length starts → get_or starts 0 0 ≡ 0 → (k : ℕ) → k < length starts
    → interval_of starts (get_or starts k 0) ≡ k
interval_at starts up some zero k lt =
    let at = last_at starts up some zero (get_or starts k 0) in
    let late : k ≤ interval_of starts (get_or starts k 0) = at.last k lt (omega arith) in
    let low : get_or starts (interval_of starts (get_or starts k 0)) 0 ≤ get_or starts k 0 = at.low in
    ⊎_elim
    (λ (more' : k < interval_of starts (get_or starts k 0)).
    let less = up k (interval_of starts (get_or starts k 0)) 0 more' at.within in omega arith)
    (λ (le : interval_of starts (get_or starts k 0) ≤ k). omega arith)
    (cases_lt k (interval_of starts (get_or starts k 0)))

-- starts that rise from below all others begin with 0
pub first_is_zero : (starts : List ℕ) → AllPairs (λ a b. a < b) starts → Contains starts 0 → (0 < length starts) × (get_or starts 0 0 ≡ 0)
first_is_zero starts up zero =
    let at = zero.1 in
    let is : get_or starts zero.0 0 ≡ 0 = zero.2 in
    let none : zero.0 ≡ 0 = ⊎_elim (λ (h : 0 < zero.0). let less = up 0 zero.0 0 h at in omega arith) (λ (h : zero.0 ≤ 0). omega arith) (cases_lt 0 zero.0) in
    (omega arith, sym (ap (λ (n : ℕ). get_or starts n 0) none) ∙ is)

module _ (top : ℕ) (ranges : List Range) (starts : List ℕ) (are : AreStarts top ranges starts) (number : ℕ) (le : number ≤ top) where
  -- a start at or below the number is at or below the start of its interval
  reached : (start interval : ℕ) → IsLastAt starts number interval → Contains starts start → start ≤ number → start ≤ get_or starts interval 0
  reached start interval at among below =
      let same : get_or starts among.0 0 ≡ start = get_or_default starts among.0 0 start among.1 ∙ among.2 in
      let early : among.0 ≤ interval = at.last among.0 among.1 (omega arith) in
      let rise : get_or starts among.0 0 ≤ get_or starts interval 0 = non_decreasing starts are.rises among.0 interval 0 early at.within in
      omega arith

  -- no set tells a number from the start of its interval
  pub same_side : (interval : ℕ) → IsLastAt starts number interval → (set : ℕ) → IsInRanges ranges set (get_or starts interval 0) ↔ IsInRanges ranges set number
  same_side interval at set = (
    λ h. record {
      range = h.range;
      among = h.among;
      of = h.of;
      low = let low = h.low in let start = at.low in omega arith;
      high = ⊎_elim
          (λ (beyond : (h.range).high < number).
          let end : (h.range).high + 1 ≤ get_or starts interval 0 = reached ((h.range).high + 1) interval at (are.has.ends h.range h.among (omega arith)) (omega arith) in
          let high = h.high in
          omega arith)
          (λ (within : number ≤ (h.range).high). within)
          (cases_lt (h.range).high number);
    },
    λ h. record {
      range = h.range;
      among = h.among;
      of = h.of;
      low = let low = h.low in reached (h.range).low interval at (are.has.begins h.range h.among (omega arith)) low;
      high = let high = h.high in let start = at.low in omega arith;
    },
  )
