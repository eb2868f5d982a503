-- What the records of passes refuse.
use Rattle.std.proofs.Common.{◌≡◌, List, [], ◌∷◌, ◌++◌, refl, inl, inr, arith, rules}
use Rattle.npf_shelf.proofs.ListLemmas.{same_from_push}
use Rattle.npf_core.specs.{declared.entry.Entry.Entry, History.by, Meaning.Meaning}
use Rattle.npf_connections.specs.{Pass.IsOwn, RecordLaw.{ListedAddNothing, EndsWithOwn, SoleIsAlone, EpochsEnd, look_by, resting}}

second : {E : Type 0} (x y z : E) (before : List E) → x ∷ y ∷ [] ≡ before ++ z ∷ [] → y ≡ z
second x y z [] e = absurd cc
second x y z (b ∷ before) e = same_from_push y z before cc

pub listed_add_nothing : {S A R : Type 0} → ListedAddNothing S A R
listed_add_nothing {S} {A} {R} key adds =
    let none : by 2 adds.rest ≡ [] = adds.listed 2 (search rules) in
    let some : by 2 (look_by {S = S} {A = A} {R = R} 2 key ∷ []) ≡ [] = rw (← adds.goes_on) at none in
    absurd cc

pub ends_with_own : {S A R : Type 0} → EndsWithOwn S A R
ends_with_own {S} {A} {R} key adds =
    let end = adds.ends [] (look_by 1 key) refl in
    let last : look_by {S = S} {A = A} {R = R} 2 key ≡ look_by 1 key = second _ _ _ end.0 end.1 in
    absurd cc

pub sole_is_alone : {S A R : Type 0} (m : Meaning S A R) → SoleIsAlone m
sole_is_alone {S} {A} {R} m key pass = by_owner (pass.alone refl (look_by 2 key) (search rules))
  where
    by_owner : IsOwn (resting {E = Entry S A R} 1 [] 66 []) 2 → ⊥
    by_owner (inl e) = absurd cc
    by_owner (inr c) = absurd (search rules)

pub epochs_end : {S A R : Type 0} (m : Meaning S A R) → EpochsEnd m
epochs_end m pass = let most = pass.most in absurd (omega (arith, most))
