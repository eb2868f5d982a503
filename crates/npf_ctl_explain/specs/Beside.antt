-- Texts of the items of two lists that stand at one place.
use Rattle.std.specs.Prelude.{ℕ, Option, Some, None, List, [], length, slice_get}
use Rattle.std.specs.List.{flat_map, range_with_len}

abbrev pub beside : {X Y : Type 0} → (X → Y → List ℕ) → Option X → Option Y → List ℕ
beside text (Some x) (Some y) = text x y
beside text (Some x) None = []
beside text None y = []

-- place by place, counted from 0
abbrev pub each_beside : {X Y : Type 0} → (ℕ → X → Y → List ℕ) → List X → List Y → List ℕ
each_beside text xs ys = flat_map (λ place. beside (text place) (slice_get xs place) (slice_get ys place)) (range_with_len 0 (length xs))
