-- The words of marks, by which emptied nodes come back: a node in whose places nothing stands is marked, then its mark takes its place, and
-- once nobody can be in it any more the mark is cleared.
use Rattle.std.specs.Prelude.{◌≡◌, ◌≢◌, ℕ, ◌+◌, ◌*◌, ◌/◌, ◌%◌, ◌<◌, ◌==◌, List, slice_index, if◌then◌else◌}
use Rattle.npf_paths.specs.declared.cell.Cell.{Cell}
use Rattle.npf_paths.specs.declared.cell.Cell.TheVariants.{Node, Mark}
use Rattle.npf_paths.specs.declared.place.Place.{Place}
use Rattle.npf_paths.specs.CellWords.{cell_of, cell_word}
use Rattle.npf_cells_words.specs.declared.layout.Layout.{Layout}
use Rattle.npf_cells_words.specs.declared.layout.Pool.TheVariants.{Nodes}
use Rattle.npf_cells_words.specs.Layout.{state_field, parent_field, field_at}
use Rattle.npf_cells_words.specs.Places.{place_at}

-- the word of the mark of a node: it says the node that hung there
abbrev pub mark_word : ℕ → ℕ
mark_word node = node * 4 + 3

-- where a path goes from what stands in a place: a mark still leads to its node
abbrev pub shown_of : ℕ → Cell
shown_of word = if word % 4 == 3 then Node (word / 4) else cell_of word

-- the state of a node that its pass marked
abbrev pub marked_state : ℕ
marked_state = 2

abbrev pub state_word : Layout → List ℕ → ℕ → ℕ
state_word layout words node = slice_index words (field_at layout Nodes node state_field)

abbrev pub parent_word : Layout → List ℕ → ℕ → ℕ
parent_word layout words node = slice_index words (field_at layout Nodes node parent_field)

-- in the place stands the mark of the node
abbrev pub IsMarkOf : Layout → List ℕ → Place → ℕ → Type 0
IsMarkOf layout words p node = slice_index words (place_at layout p) ≡ mark_word node

-- nothing stands in any place of the node
abbrev pub IsBareNode : Layout → List ℕ → ℕ → Type 0
IsBareNode layout words node = (digit : ℕ) → digit < 16 → slice_index words (field_at layout Nodes node digit) ≡ 0

-- each mark is read as one, and says its node
abbrev pub MarksSayNodes : Type 0
MarksSayNodes = (node other : ℕ) → (cell_of (mark_word node) ≡ Mark) × (mark_word node ≡ mark_word other → node ≡ other)

-- a mark leads to its node, and any other cell where it says
abbrev pub MarksLeadOn : Type 0
MarksLeadOn = ((node : ℕ) → shown_of (mark_word node) ≡ Node node) × ((word : ℕ) → cell_of word ≢ Mark → shown_of word ≡ cell_of word) × ((c : Cell) → c ≢ Mark → shown_of (cell_word c) ≡ c)
