-- What the part on marks says of two places, of two passes, and of one that may be in a node that was let go.
use Rattle.std.specs.Prelude.{◌≡◌, ℕ, ◌+◌, ◌^◌, ◌≤◌, Some, List, Contains}
use mathlib.Core.Option.{some}
use lib.ListN.{get_elem?}
use Rattle.npf_paths.specs.declared.place.Place.{Place}
use Rattle.npf_cells_words.specs.declared.layout.Layout.{Layout}
use Rattle.npf_cells_words.specs.declared.mark.Marked.{Marked}
use Rattle.npf_cells_words.specs.Layout.{epoch_word}
use Rattle.npf_cells_words.specs.MarkWords.{state_word, IsMarkOf}
use Rattle.npf_cells_words.specs.Places.{IsInTrie}
use Rattle.npf_cells_lives.specs.Locks.{Locks}
use Rattle.npf_cells_marks.specs.Marks.{MarkSide, RestsIn, Marks}

-- the mark of a node stands in one place alone
abbrev pub MarkStandsOnce : Layout → Type 0
MarkStandsOnce layout = (published words : List ℕ) (sides : List MarkSide) (p q : Place) (node : ℕ) → Marks (λ x. x) layout published words sides → IsInTrie layout p → IsInTrie layout q →
    IsMarkOf layout words p node → IsMarkOf layout words q node → p ≡ q

-- two passes that marked one node are one
abbrev pub MarkerIsAlone : Layout → Type 0
MarkerIsAlone layout = (published words : List ℕ) (sides : List MarkSide) (i j : ℕ) (v w : MarkSide) (m n : Marked) → Marks (λ x. x) layout published words sides → Locks (λ (side : MarkSide). side.locks) layout words sides →
    get_elem? sides i ≡ some v → get_elem? sides j ≡ some w → Contains v.marks m → Contains w.marks n → m.node ≡ n.node → i ≡ j

-- while a pass may be in a node that was let go with an epoch, and keeps the table's epoch within one of its own, that is at most one more
abbrev pub MarkedHoldsBack : Layout → Type 0
MarkedHoldsBack layout = (published words : List ℕ) (sides : List MarkSide) (p : Place) (node epoch j protecting : ℕ) (v : MarkSide) → Marks (λ x. x) layout published words sides → IsInTrie layout p → IsMarkOf layout words p node →
    state_word layout words node ≡ 2 ^ 63 + epoch → get_elem? sides j ≡ some v → RestsIn v node → v.protecting ≡ Some protecting → epoch_word words ≤ protecting + 1 → epoch_word words ≤ epoch + 1
