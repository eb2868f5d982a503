-- The numbers by which words name places of the trie.
use Rattle.std.specs.Prelude.{◌≡◌, ℕ, ◌+◌, ◌*◌, ◌^◌, ◌≤◌, ◌<◌}
use Rattle.npf_paths.specs.declared.place.Place.{Place}
use Rattle.npf_paths.specs.declared.place.Place.TheVariants.{Root, Node}
use Rattle.npf_cells_words.specs.declared.layout.Layout.{Layout}
use Rattle.npf_cells_words.specs.Places.{IsInTrie}

-- the number of a place: those of the root's 64 come first, and behind them each node's 16
abbrev pub place_code : Place → ℕ
place_code (Root digit) = 1 + digit
place_code (Node node digit) = 65 + 16 * node + digit

-- two places have two numbers
abbrev pub CodesAreApart : Layout → Type 0
CodesAreApart layout = (p q : Place) → IsInTrie layout p → IsInTrie layout q → place_code p ≡ place_code q → p ≡ q

-- none of them is 0, and in a table whose nodes have numbers of 32 bits none has the highest bit
abbrev pub CodesFit : Layout → Type 0
CodesFit layout = (p : Place) → IsInTrie layout p → layout.nodes < 2 ^ 32 → (1 ≤ place_code p) × (place_code p < 2 ^ 63)
