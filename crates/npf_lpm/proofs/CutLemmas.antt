-- Places in lists that rise by a number of their elements, and the counts of an index.
use Rattle.std.proofs.Common.{◌≡◌, ℕ, List, ◌+◌, ◌-◌, ◌^◌, ◌<◌, ◌≤◌, true, false, min, length, get_or, arith, ap, ◌∙◌, ⊎_elim}
use Rattle.std.{specs.List.{Sorted.{IsNonDecreasing, IsNonDecreasingBy, IsPartitionPoint}, between}, proofs.Math.Dec.leb}
use Rattle.std.proofs.lemmas.{Bool.{cases_lt, leb-false, leb-true}, List.Edits.{get_or-between, length-between}, Nat.pow_pos}
use Rattle.npf_lpm.{specs.{Cut.{IsCut, IsLowCut, LiesBetween}, Index.bucket}, proofs.AgreeLemmas.div-mono}

module _ {X : Type 0} (n : X → ℕ) (limit : ℕ) (xs : List X) (count : ℕ) where
  -- the elements from a place on are at or above the limit where that place's is
  pub cut_here : IsNonDecreasingBy n xs → IsLowCut n limit xs count → ((d : X) → count < length xs → limit ≤ n (get_or xs count d)) → IsCut n limit xs count
  cut_here up low at = record {
    most = low.most;
    before = low.before;
    behind = λ k d ge lt. let here = at d (omega arith) in let above = up count k d ge lt in omega arith;
  }

  -- a place that is below a limit is below a higher one
  pub low_later : (higher : ℕ) → limit ≤ higher → IsCut n limit xs count → IsLowCut n higher xs count
  low_later higher le cut = record { most = cut.most; before = λ k d lt. let less = cut.before k d lt in omega arith }

min-mono : (x y most : ℕ) → x ≤ y → min x most ≤ min y most
min-mono x y most le = omega arith

pub bucket_rises : (base shift : ℕ) (xs : List ℕ) → IsNonDecreasing xs → IsNonDecreasingBy (bucket base shift) xs
bucket_rises base shift xs up i j d le lt =
    let most = up i j d le lt in
    min-mono _ _ 65535 (div-mono (2 ^ shift) (get_or xs i d - base) (get_or xs j d - base) (pow_pos shift) (omega arith))

-- the counts of the buckets below one are right
pub record IsRenewedTo (firsts : List ℕ) (base shift : ℕ) (counts : List ℕ) (end below : ℕ) : Type 0 where
  pub narrow : shift < 128
  pub few : length firsts < 2 ^ 32
  pub counted : (b : ℕ) → b < end → IsCut (bucket base shift) b firsts (get_or counts b 0)
  pub low : IsLowCut (bucket base shift) end firsts below

-- what a search between two places says of the whole
pub counted : (fs : List ℕ) (a low high i : ℕ) → LiesBetween fs a low high → i ≤ length (between low high fs)
    → IsPartitionPoint (λ y. leb y a ≡ true) (λ y. leb y a ≡ false) (between low high fs) i → IsCut (λ x. x) (a + 1) fs (low + i)
counted fs a low high i b most point =
    let order = b.order in
    let all = b.most in
    let long : length (between low high fs) ≡ high - low = length-between fs low high all in
    record {
      most = omega arith;
      before = λ k d lt. ⊎_elim
          (λ (early : k < low). let le = b.before k d early in omega arith)
          (λ (late : low ≤ k).
          let at : get_or (between low high fs) (k - low) d ≡ get_or fs k d = get_or-between fs low high (k - low) d (omega (arith, long)) ∙ ap (λ j. get_or fs j d) (back low k late) in
          let le : get_or (between low high fs) (k - low) d ≤ a = leb-true _ a (point.0 (k - low) d (omega arith) (omega arith)) in
          omega arith)
          (cases_lt k low);
      behind = λ k d ge lt. ⊎_elim
          (λ (early : k < high).
          let at : get_or (between low high fs) (k - low) d ≡ get_or fs k d = get_or-between fs low high (k - low) d (omega arith) ∙ ap (λ j. get_or fs j d) (back low k (omega arith)) in
          let gt : a < get_or (between low high fs) (k - low) d = leb-false _ a (point.1 (k - low) d (omega arith) (omega (arith, long))) in
          omega arith)
          (λ (late : high ≤ k). let gt = b.behind k d late lt in omega arith)
          (cases_lt k high);
    } where
      back : (n k : ℕ) → n ≤ k → n + (k - n) ≡ k
      back n k le = omega arith
