-- Regions of cells, and the places of lists that decide on them.
use Rattle.std.specs.Prelude.{◌≡◌, ◌<◌, ◌+◌, ◌==◌, ◌&&◌, ◌||◌, ℕ, Bool, not, List, length}
use Rattle.std.specs.List.{All, list_any, range_with_len}
use Rattle.npf_boxes.specs.declared.box_list.Boxes.{Boxes}
use Rattle.npf_boxes.specs.Cell.{any_has, box_at, in_box, words_of}
use Rattle.npf_search.specs.declared.decider.Decider.{Decider}
use Rattle.npf_search.specs.declared.region.Region.{Region}

-- the box of this number has the cell
abbrev pub has_box : Boxes → List ℕ → ℕ → Bool
has_box boxes cell number = in_box boxes.shape (box_at boxes number) cell

-- the test holds of the item at the decider's place, or the place is behind all items
abbrev pub own_decides : (ℕ → Bool) → Decider → Bool
own_decides holds decider = decider.place == decider.count || holds (decider.first + decider.place)

-- of a list's items this place's is the first of which the test holds; the place behind all decides where it holds of none
abbrev pub decides : (ℕ → Bool) → Decider → Bool
decides holds decider = own_decides holds decider && not (list_any holds (range_with_len decider.first decider.place))

-- a region has a cell where its box has it and none of the others does
abbrev pub region_has : Boxes → Region → List ℕ → Bool
region_has boxes region cell = in_box boxes.shape region.words.items cell && not (any_has boxes region.before.items cell)

-- the region's boxes are of this list
pub record IsRegionOf (boxes : Boxes) (region : Region) : Type 0 where
  pub whole : length region.words.items ≡ words_of boxes.shape
  pub known : All (λ number. number < boxes.count) region.before.items
