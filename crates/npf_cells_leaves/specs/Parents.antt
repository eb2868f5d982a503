-- The parent words of nodes: each names the one place in which its node hangs.
use Rattle.std.specs.Prelude.{◌≡◌, ℕ, ◌+◌, List, [], ◌∷◌}
use Rattle.npf_paths.specs.declared.cell.Cell.{Cell}
use Rattle.npf_paths.specs.declared.cell.Cell.TheVariants as Cells
use Rattle.npf_paths.specs.declared.place.Place.{Place}
use Rattle.npf_paths.specs.declared.place.Place.TheVariants as Places
use Rattle.npf_paths.specs.Paths.{AreDigits, IsOnPath}
use Rattle.npf_cells_words.specs.Codes.{place_code}

-- where a path meets a node, the node's parent is the number of that place
abbrev pub Parents : (Place → Cell) → (ℕ → ℕ) → Type 0
Parents cell parent = (digits : ℕ → ℕ) (level : ℕ) (p : Place) (node : ℕ) → AreDigits digits → IsOnPath digits cell level p → cell p ≡ Cells.Node node → parent node ≡ place_code p

-- the place at the foot of new nodes to which the digits lead, where the first is met at that level behind this place
abbrev pub foot_place : (ℕ → ℕ) → ℕ → Place → List ℕ → Place
foot_place digits level p [] = p
foot_place digits level p (node ∷ nodes) = foot_place digits (level + 1) (Places.Node node (digits level)) nodes

-- the parent of each of these nodes is said to be the number of the place that is to have it: for the first, whose places are those of that
-- level, this place, and for each further one the place to which the digits lead in the one before it
abbrev pub NameParents : (ℕ → ℕ) → (ℕ → ℕ → Type 0) → ℕ → Place → List ℕ → Type 0
NameParents digits says level p [] = Unit {0}
NameParents digits says level p (node ∷ nodes) = says node (place_code p) × NameParents digits says (level + 1) (Places.Node node (digits level)) nodes
