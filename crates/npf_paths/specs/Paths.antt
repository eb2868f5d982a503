-- The path of a key through the trie. A key is seen as its digits, one a level, and the trie as what stands in each place.
use Rattle.std.specs.Prelude.{◌≡◌, ℕ, ◌+◌, ◌≤◌, ◌<◌}
use Rattle.npf_paths.specs.declared.cell.Cell.{Cell}
use Rattle.npf_paths.specs.declared.cell.Cell.TheVariants as Cells
use Rattle.npf_paths.specs.declared.place.Place.{Place}
use Rattle.npf_paths.specs.declared.place.Place.TheVariants.{Root, Node}

-- the first digit fits the root's 64 places, and each further one a node's 16
pub record AreDigits (digits : ℕ → ℕ) : Type 0 where
  pub root : digits 0 < 64
  pub node : (level : ℕ) → 1 ≤ level → digits level < 16

-- the place is met at that level of the path: the root's place of the first digit, and where a node stands in a place of the path,
-- that node's place of the next digit
pub data IsOnPath (digits : ℕ → ℕ) (cell : Place → Cell) : ℕ → Place → Type 0 where
  at_root : IsOnPath digits cell 0 (Root (digits 0))
  further : (level : ℕ) (p : Place) (node : ℕ) → IsOnPath digits cell level p → cell p ≡ Cells.Node node → IsOnPath digits cell (level + 1) (Node node (digits (level + 1)))

-- no path goes on from what stands there
abbrev pub IsEnd : Cell → Type 0
IsEnd Cells.Empty = Unit {0}
IsEnd (Cells.Leaf _ _) = Unit {0}
IsEnd (Cells.Node _) = ⊥
IsEnd Cells.Mark = Unit {0}

-- the path ends at that level in that place
pub record EndsAt (digits : ℕ → ℕ) (cell : Place → Cell) (level : ℕ) (p : Place) : Type 0 where
  pub on_path : IsOnPath digits cell level p
  pub is_end : IsEnd (cell p)
