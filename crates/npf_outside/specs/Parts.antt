-- What one part is of the bytes that are given part by part.
use Rattle.std.specs.Prelude.{◌≡◌, ℕ, List, [], ◌++◌}

-- a part of what was left to give was put behind what stood before; none is empty unless nothing is left
pub record GivesPart (rest left before now : List ℕ) : Type 0 where
  pub part : List ℕ
  pub gives : rest ≡ part ++ left
  pub appends : now ≡ before ++ part
  pub ends : part ≡ [] → left ≡ []
