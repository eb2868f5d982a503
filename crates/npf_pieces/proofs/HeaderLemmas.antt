-- What is written into a header, and what stays.
use Rattle.std.{proofs.Common.{◌≡◌, ◌≢◌, ℕ, ◌+◌, ◌<◌, ◌≤◌, ⊎_elim, List, get_or, set, arith, get_or-set_other}, specs.List.{SameBelow, SameFrom}}
use Rattle.std.{specs.Prelude.slice_index, proofs.lemmas.Bool.cases_lt}
use Rattle.npf_fields.specs.Field.{number16}

pub number16_below : (old new : List ℕ) (n at : ℕ) → SameBelow old new n → at + 2 ≤ n → number16 new at ≡ number16 old at
number16_below old new n at same h =
    let one = same at 0 (omega arith) in
    let other = same (at + 1) 0 (omega arith) in
    omega (arith, one, other)

pub other_byte : (old new : List ℕ) (p at : ℕ) → SameBelow old new p → SameFrom old new (p + 2) → at ≢ p → at ≢ p + 1
    → slice_index new at ≡ slice_index old at
other_byte old new p at below from h k =
    ⊎_elim (λ (lt : at < p). below at 0 lt) (λ (le : p ≤ at). from at 0 (omega arith)) (cases_lt at p)

pub number16-set : (bytes : List ℕ) (p at v : ℕ) → at + 2 ≤ p → number16 (set bytes p v) at ≡ number16 bytes at
number16-set bytes p at v h =
    let here : at ≢ p = omega arith in
    let there : at + 1 ≢ p = omega arith in
    let one = get_or-set_other bytes p at v 0 here in
    let other = get_or-set_other bytes p (at + 1) v 0 there in
    omega (arith, one, other)
