-- A list of distinct things through a change of one of them.
use Rattle.std.specs.Prelude.{◌≡◌, ◌≤◌, ◌<◌, ℕ, List, Bool, true, false, Result, Ok, Err, Contains, length, slice_index_or}
use Rattle.std.specs.List.{insert, remove}

-- the list has it at the place
pub record IsAt {X : Type 0} (xs : List X) (x : X) (place : ℕ) : Type 0 where
  pub within : place < length xs
  pub is : (d : X) → slice_index_or xs place d ≡ x

-- it was put in at some place
pub record IsPutIn {X : Type 0} (old new : List X) (x : X) : Type 0 where
  pub place : ℕ
  pub within : place ≤ length old
  pub put : new ≡ insert old place x

-- it was taken out where it was
pub record IsTakenOut {X : Type 0} (old new : List X) (x : X) : Type 0 where
  pub place : ℕ
  pub there : IsAt old x place
  pub taken : new ≡ remove old place
  pub gone : ¬ Contains new x

-- an insertion: true where it was put in, false where it was there, and an error where it wasn't and couldn't be put in
abbrev pub Inserts : {X E : Type 0} → List X → List X → X → Result Bool E → Type 0
Inserts old new x (Ok true) = (¬ Contains old x) × IsPutIn old new x
Inserts old new x (Ok false) = Contains old x × (new ≡ old)
Inserts old new x (Err _) = (¬ Contains old x) × (new ≡ old)

-- a removal: true where it was taken out, and false where it wasn't there
abbrev pub Removes : {X : Type 0} → List X → List X → X → Bool → Type 0
Removes old new x true = IsTakenOut old new x
Removes old new x false = (¬ Contains old x) × (new ≡ old)
