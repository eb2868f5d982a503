-- What a search keeps of the parts of a box and of the others.
use Rattle.std.specs.Prelude.{◌≡◌, ◌<◌, ◌||◌, ℕ, Bool, true, false, List, [], All, length, MatchOption}
use Rattle.std.specs.List.{Contains, list_any}
use Rattle.npf_boxes.specs.declared.box_list.Boxes.{Boxes}
use Rattle.npf_boxes.specs.declared.look.Left.{Left}
use Rattle.npf_boxes.specs.declared.part.BoxPart.{BoxPart}
use Rattle.npf_boxes.specs.declared.shape.Shape.{Shape}
use Rattle.npf_boxes.specs.Cell.{HasCell, IsPart, any_has, box_at, in_box, words_of}

-- a part of the box that has a cell, and none in any of the others
pub record IsOutside (boxes : Boxes) (box others part : List ℕ) : Type 0 where
  pub within : IsPart boxes.shape part box
  pub has_cell : HasCell boxes.shape part
  pub apart : (cell : List ℕ) → in_box boxes.shape part cell ≡ true → any_has boxes others cell ≡ false

-- after a look at these boxes this is what the box lost nothing of but what they have, and the others left have of it what they have
pub record AreLeft (boxes : Boxes) (seen box part left : List ℕ) : Type 0 where
  pub whole : length part ≡ words_of boxes.shape
  pub within : IsPart boxes.shape part box
  pub lost : (cell : List ℕ) → in_box boxes.shape box cell ≡ true → in_box boxes.shape part cell ≡ false → any_has boxes seen cell ≡ true
  pub same : (cell : List ℕ) → in_box boxes.shape part cell ≡ true → any_has boxes left cell ≡ any_has boxes seen cell
  pub known : All (λ other. other < boxes.count) left

-- the same of a look at one more
pub record Narrows (boxes : Boxes) (other : ℕ) (box part before left : List ℕ) : Type 0 where
  pub within : IsPart boxes.shape part box
  pub lost : (cell : List ℕ) → in_box boxes.shape box cell ≡ true → in_box boxes.shape part cell ≡ false
      → in_box boxes.shape (box_at boxes other) cell ≡ true
  pub same : (cell : List ℕ) → in_box boxes.shape part cell ≡ true
      → any_has boxes left cell ≡ (any_has boxes before cell || in_box boxes.shape (box_at boxes other) cell)
  pub known : All (λ number. number < boxes.count) before → All (λ number. number < boxes.count) left

-- one of the others that are left is there to split by, if any is left
abbrev pub IsToSplitBy : Left → Type 0
IsToSplitBy left = MatchOption left.by (left.others.items ≡ []) (Contains left.others.items)

-- a part of the box, in which its others have what these have
pub record IsPartOf (boxes : Boxes) (box numbers : List ℕ) (part : BoxPart) : Type 0 where
  pub whole : length part.words.items ≡ words_of boxes.shape
  pub within : IsPart boxes.shape part.words.items box
  pub same : (cell : List ℕ) → in_box boxes.shape part.words.items cell ≡ true
      → any_has boxes part.others.value.items cell ≡ any_has boxes numbers cell
  pub known : All (λ other. other < boxes.count) part.others.value.items

-- one of the parts has the cell
abbrev pub any_part_has : Shape → List BoxPart → List ℕ → Bool
any_part_has shape parts cell = list_any (λ part. in_box shape part.words.items cell) parts
