-- What a reader answers: the one reading of what it is given, or that there is none. `Rel x y` says that x is read as y.
use Rattle.std.specs.Prelude.{◌≡◌, ◌++◌, List, Option, Some, None}

-- x is read as y, and as nothing else
pub record IsOnly {X Y : Type 0} (Rel : X → Y → Type 0) (x : X) (y : Y) : Type 0 where
  pub reads : Rel x y
  pub only : (other : Y) → Rel x other → other ≡ y

-- the one reading, or None where there is none
abbrev pub IsReading : {X Y : Type 0} → (X → Y → Type 0) → X → Option Y → Type 0
IsReading {X} {Y} Rel x None = (y : Y) → ¬ Rel x y
IsReading Rel x (Some y) = IsOnly Rel x y

-- how far a reader of a list has come: `done` was read of `all`, and `rest` is left
pub record IsSoFar {X Y : Type 0} (Rel : List X → List Y → Type 0) (all : List X) (done : List Y) (rest : List X) : Type 0 where
  -- what is read of the rest goes behind what was read
  pub onward : (more : List Y) → Rel rest more → Rel all (done ++ more)
  -- and all that can be read begins with what was read
  pub back : (ys : List Y) → Rel all ys → (more : List Y) × (ys ≡ done ++ more) × Rel rest more
