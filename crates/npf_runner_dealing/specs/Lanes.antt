-- How a list is dealt to lanes.
use Rattle.std.specs.Prelude.{◌≡◌, ℕ, ◌==◌, ◌<◌, if◌then◌else◌, List, [], ◌∷◌, All, length, slice_index_or}
use Rattle.std.specs.Global.{Global, Vec}
use Rattle.std.specs.declared.collections.VecDeque.{VecDeque}

-- those of a list that go to a lane, in order, where the items go to these lanes
abbrev pub of_lane : {X : Type 0} → ℕ → List ℕ → List X → List X
of_lane lane (other ∷ order) (x ∷ xs) = if other == lane then x ∷ of_lane lane order xs else of_lane lane order xs
of_lane lane [] xs = []
of_lane lane (other ∷ order) [] = []

-- each lane has what goes to it of the list, and each item goes to one of them
pub record IsDealt {X : Type 0} (order : List ℕ) (xs : List X) (lanes : List (List X)) : Type 0 where
  pub count : length xs ≡ length order
  pub fits : All (λ lane. lane < length lanes) order
  pub each : (lane : ℕ) (d : List X) → lane < length lanes → slice_index_or lanes lane d ≡ of_lane lane order xs

-- the items of a vector, and of a queue
abbrev pub vec_items : {X : Type 0} → Vec X → List X
vec_items vec = vec.items

abbrev pub queue_items : {X : Type 0} → VecDeque X Global → List X
queue_items queue = queue.items
