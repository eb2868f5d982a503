-- What the part on the trie says of passes.
use Rattle.std.specs.Prelude.{◌≡◌, ℕ, Some, List}
use mathlib.Core.Option.{some}
use lib.ListN.{get_elem?}
use Rattle.npf_types.specs.declared.key.Key.{Key}
use Rattle.npf_core.specs.Machine.{Machine}
use Rattle.npf_paths.specs.declared.cell.Cell.TheVariants as Cells
use Rattle.npf_paths.specs.declared.place.Place.{Place}
use Rattle.npf_paths.specs.declared.place.Place.TheVariants as Places
use Rattle.npf_paths.specs.Paths.{AreDigits, IsOnPath}
use Rattle.npf_cells_words.specs.declared.layout.Layout.{Layout}
use Rattle.npf_cells_leaves.specs.declared.trie.PathPlace.{PathPlace}
use Rattle.npf_cells_leaves.specs.declared.trie.TrieSide.{TrieSide}
use Rattle.npf_cells_leaves.specs.Trie.{trie_words, IsRightNode, Trie}

-- the node in which a pass stands is one of the table's, and was published
pub record IsPublished (layout : Layout) (published : List ℕ) (node : ℕ) : Type 0 where
  pub level : ℕ
  pub right : IsRightNode layout.nodes published level node

abbrev pub StandsInPublished : (S : Type 0) → (Key → ℕ) → Layout → Type 0
StandsInPublished S digest layout = (published : List ℕ) (k : Machine S) (words : List ℕ) (sides : List TrieSide) (j node digit : ℕ) (side : TrieSide) (point : PathPlace) →
    Trie (λ x. x) digest layout published k words sides → get_elem? sides j ≡ some side → side.stands ≡ Some point → point.place ≡ Places.Node node digit → IsPublished layout published node

-- a node that paths meet in two places is met in one
abbrev pub HangsInOnePlace : (S : Type 0) → (Key → ℕ) → Layout → Type 0
HangsInOnePlace S digest layout = (published : List ℕ) (k : Machine S) (words : List ℕ) (sides : List TrieSide) (digits digits' : ℕ → ℕ) (level level' : ℕ) (p q : Place) (node : ℕ) →
    Trie (λ x. x) digest layout published k words sides → AreDigits digits → AreDigits digits' → IsOnPath digits (trie_words layout words).cell level p → IsOnPath digits' (trie_words layout words).cell level' q →
    (trie_words layout words).cell p ≡ Cells.Node node → (trie_words layout words).cell q ≡ Cells.Node node → p ≡ q
