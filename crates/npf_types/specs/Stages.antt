-- Stages of a work, and how they are put one behind the other.
use Rattle.std.specs.Prelude.{◌≡◌, Bool, if◌then◌else◌, Result, Ok, Err}

-- what a stage may come to: something that the next one takes, or a fault that ends the work
abbrev pub Stage : Type 0 → Type 0 → Type 1
Stage A F = Result A F → Type 0

-- one stage and then the next, which goes by what the first came to
infixr 5 ◌andthen◌
pub data ◌andthen◌ {A B F : Type 0} (first : Stage A F) (next : A → Stage B F) : Result B F → Type 0 where
  stops : {fault : F} → first (Err fault) → (first andthen next) (Err fault)
  goes_on : {a : A} {result : Result B F} → first (Ok a) → next a result → (first andthen next) result

-- a stage that comes to this and to nothing else
abbrev pub gives : {A F : Type 0} → A → Stage A F
gives a result = result ≡ Ok a

-- a stage that ends with this fault
abbrev pub refuses : {A F : Type 0} → F → Stage A F
refuses fault result = result ≡ Err fault

-- a stage that ends with this fault unless the test holds
abbrev pub asks_that : {F : Type 0} → Bool → F → Stage (Unit {0}) F
asks_that test fault result = result ≡ (if test then Ok tt else Err fault)

-- a stage whose faults are told so
infixl 6 ◌told_by◌
pub data ◌told_by◌ {A F G : Type 0} (stage : Stage A F) (tell : F → G) : Result A G → Type 0 where
  told : {fault : F} → stage (Err fault) → (stage told_by tell) (Err (tell fault))
  done : {a : A} → stage (Ok a) → (stage told_by tell) (Ok a)
