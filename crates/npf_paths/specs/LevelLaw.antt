-- In a trie each place stands at one level: every path that meets it does so there.
use Rattle.std.specs.Prelude.{◌≡◌, ℕ, ◌<◌, List, length, slice_index}
use Rattle.npf_paths.specs.declared.cell.Cell.{Cell}
use Rattle.npf_paths.specs.declared.place.Place.{Place}
use Rattle.npf_paths.specs.FillingLaw.{FillsPlace}
use Rattle.npf_paths.specs.Growing.{GrowsBranch}
use Rattle.npf_paths.specs.Paths.{AreDigits, IsOnPath, IsEnd}

-- two paths that meet a place meet it at one level
abbrev pub MeetsAtOneLevel : (Place → Cell) → Type 0
MeetsAtOneLevel cell =
    (digits digits' : ℕ → ℕ) (l l' : ℕ) (q : Place) → AreDigits digits → AreDigits digits' →
    IsOnPath digits cell l q → IsOnPath digits' cell l' q → l ≡ l'

-- none of the nodes is there twice
abbrev pub AreApart : List ℕ → Type 0
AreApart nodes = (i j : ℕ) → i < length nodes → j < length nodes → slice_index nodes i ≡ slice_index nodes j → i ≡ j

-- it is so where no node hangs
abbrev pub BareHasLevels : Type 0
BareHasLevels = (cell : Place → Cell) → ((q : Place) → IsEnd (cell q)) → MeetsAtOneLevel cell

-- it stays so where a place is filled
abbrev pub FillsKeepLevels : Type 0
FillsKeepLevels = (cell cell' : Place → Cell) (p : Place) → FillsPlace cell cell' p → MeetsAtOneLevel cell → MeetsAtOneLevel cell'

-- and where a branch of nodes grows of which none is there twice
abbrev pub GrowthKeepsLevels : Type 0
GrowthKeepsLevels =
    (mine theirs : ℕ → ℕ) (cell cell' : Place → Cell) (leaf other : Cell) (level : ℕ) (p : Place) (first : ℕ) (nodes : List ℕ) →
    GrowsBranch mine theirs cell cell' leaf other level p first nodes → AreApart nodes → MeetsAtOneLevel cell → MeetsAtOneLevel cell'
