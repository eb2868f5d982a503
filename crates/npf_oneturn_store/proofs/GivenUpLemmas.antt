-- Keys that are given up.
use Rattle.std.proofs.Common.{◌≡◌, ◌≢◌, Bool, true, false, cond, Option, Some, None, refl, ap}
use Rattle.npf_core.{specs.{declared.found.Found.Found, NextState.{given_up, is_found}}, proofs.EqualityLemmas.is_found-Decides}

-- what isn't this one's is not given up
pub not_given_up : (holder : Option Found) (found : Found) → holder ≢ Some found → given_up holder found ≡ holder
not_given_up None found ne = refl
not_given_up (Some other) found ne = by_found (is_found other found) refl
  where
    by_found : (same : Bool) → is_found other found ≡ same → cond same None (Some other) ≡ Some other
    by_found true e = absurd (ne (ap (λ f. Some f) ((is_found-Decides other found).0 e)))
    by_found false e = refl

pub given_up_others : (holder : Option Found) (found other : Found) → holder ≢ Some other → given_up holder found ≢ Some other
given_up_others None found other ne e = absurd cc
given_up_others (Some holder) found other ne e = by_found (is_found holder found) e
  where
    by_found : (same : Bool) → cond same None (Some holder) ≡ Some other → ⊥
    by_found true f = absurd (let never : ⊥ = cc in never)
    by_found false f = ne f
