-- How often a name is among names, with one more at the end.
use Rattle.std.proofs.{Common.{◌≡◌, ℕ, ◌+◌, ◌≤◌, true, List, [], ◌∷◌, ◌++◌, refl, ap, cond, arith}, lemmas.{List.Sums.sum_by_push, Slice.Eq.bytes_eq-Decides}}
use Rattle.std.specs.Str.{bytes_eq}
use Rattle.npf_outside.specs.{Counts.Rose, MemFiles.times}

same_name : (name : List ℕ) → bytes_eq name name ≡ true
same_name name = (bytes_eq-Decides name name).1 refl

more_times : (names : List (List ℕ)) (name : List ℕ) → times names name + 1 ≤ times (names ++ name ∷ []) name
more_times names name =
    let one = sum_by_push (λ (other : List ℕ). cond (bytes_eq other name) 1 0) names name in
    let same = ap {B = ℕ} (λ b. cond b 1 0) (same_name name) in
    omega (arith, one, same)

pub noted_rose : (names now : List (List ℕ)) (name : List ℕ) → now ≡ names ++ name ∷ [] → Rose (times names name) (times now name)
noted_rose names now name noted = let more = more_times names name in rw noted (omega (arith, more))
