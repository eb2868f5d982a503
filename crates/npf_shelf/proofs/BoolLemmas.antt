-- What follows of tests, and of what stands at their outcomes.
use Rattle.std.{proofs.Common.{◌≡◌, ℕ, ◌<◌, ◌==◌, Bool, true, false, cond, Some, None, refl, ap}, specs.Ordering.{is_lt, nat_cmp}}
use Rattle.std.{specs.declared.cmp.Ordering.TheVariants.{Less, Equal, Greater}, proofs.lemmas.Bool.lt-ltb}

pub cond-same : {X : Type 0} (b : Bool) (x : X) → cond b x x ≡ x
cond-same true x = refl
cond-same false x = refl

pub cond-some_none : {X : Type 0} (b : Bool) (x : X) → cond b (Some x) None ≡ None → b ≡ false
cond-some_none true x none = cc
cond-some_none false x none = refl

pub is_lt-nat_cmp : (m n : ℕ) → m < n → is_lt (nat_cmp m n) ≡ true
is_lt-nat_cmp m n less = ap (λ (test : Bool). is_lt (cond test Less (cond (m == n) Equal Greater))) (lt-ltb m n less)
