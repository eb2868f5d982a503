-- Counts of the bytes below a size that pass a test.
use Rattle.std.proofs.Common.{◌≡◌, ℕ, ◌+◌, ◌-◌, ◌≤◌, ◌⊎◌, ◌&&◌, ◌||◌, Bool, false, zero, suc, inl, inr, sym, ap, min, nat_eq, nat_le, nat_lt, if◌then◌else◌, arith}
use Rattle.std.proofs.lemmas.Bool.Decides.{nat_tests}
use Rattle.npf_pieces.specs.Overlap.{count_below}

pub count_within : (f : ℕ → Bool) (n : ℕ) → count_below f n ≤ n
count_within f zero = omega arith
count_within f (suc n) = grind (arith, count_within f n)

-- two tests that nothing passes both
one_of : (x y z : Bool) (c a b : ℕ) → z ≡ (x || y) → (x && y) ≡ false → c ≡ a + b
    → c + (if z then 1 else 0) ≡ (a + (if x then 1 else 0)) + (b + (if y then 1 else 0))
one_of x y z c a b either apart e = grind arith

pub count_either : (f g h : ℕ → Bool) → ((byte : ℕ) → h byte ≡ (f byte || g byte)) → ((byte : ℕ) → (f byte && g byte) ≡ false)
    → (n : ℕ) → count_below h n ≡ count_below f n + count_below g n
count_either f g h either apart zero = omega arith
count_either f g h either apart (suc n) =
    one_of (f n) (g n) (h n) (count_below h n) (count_below f n) (count_below g n) (either n) (apart n)
    (count_either f g h either apart n)

-- nothing passes from `end` on
is_below : (end n : ℕ) → end ≤ suc n → (end ≤ n) ⊎ (end ≡ suc n)
is_below end n h = grind arith

pub count_beyond : (f : ℕ → Bool) (end n : ℕ) → ((byte : ℕ) → end ≤ byte → f byte ≡ false) → end ≤ n
    → count_below f n ≡ count_below f end
count_beyond f end zero none h = let e : zero ≡ end = omega (arith, h) in ap (count_below f) e
count_beyond f end (suc n) none h = elim (is_below end n h) [
  | inl le ↦ grind (arith, count_beyond f end n none le, none n le)
  | inr e ↦ ap (count_below f) (sym e)
]

-- the bytes of a range
count_range_to : (from end n : ℕ) → from ≤ end
    → count_below (λ byte. nat_le from byte && nat_lt byte end) n + min n from ≡ min n end
count_range_to from end zero order = omega arith
count_range_to from end (suc n) order = grind (arith, nat_tests, count_range_to from end n order)

pub count_range : (from end n : ℕ) → from ≤ end → end ≤ n
    → count_below (λ byte. nat_le from byte && nat_lt byte end) n ≡ end - from
count_range from end n order h = omega (arith, count_range_to from end n order, h)

-- all pass exactly where the count is full
pub one_more : (all more : Bool) (count n : ℕ) → count ≤ n → all ≡ nat_eq count n
    → (all && more) ≡ nat_eq (count + (if more then 1 else 0)) (suc n)
one_more all more count n within e = grind (arith, nat_tests)
