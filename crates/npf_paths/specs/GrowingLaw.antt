-- Where nodes are grown in a place, the paths that met it go on within them, and the others stay.
use Rattle.std.specs.Prelude.{◌≡◌, ◌≢◌, ◌⊎◌, ℕ, ◌+◌, ◌-◌, ◌≤◌, ◌<◌, List, length, slice_index, Contains}
use Rattle.npf_paths.specs.declared.cell.Cell.{Cell}
use Rattle.npf_paths.specs.declared.cell.Cell.TheVariants as Cells
use Rattle.npf_paths.specs.declared.place.Place.{Place}
use Rattle.npf_paths.specs.declared.place.Place.TheVariants.{Node}
use Rattle.npf_paths.specs.Growing.{IsPlaceOf, IsBranch, GrowsBranch}
use Rattle.npf_paths.specs.Paths.{AreDigits, IsOnPath, EndsAt}

-- there is a node at least; the keys agree at each level of the nodes but the last, and part there
abbrev pub BranchesPart : Type 0
BranchesPart =
    (mine theirs : ℕ → ℕ) (cell : Place → Cell) (leaf other : Cell) (level first : ℕ) (nodes : List ℕ) →
    IsBranch mine theirs cell leaf other level first nodes →
    (1 ≤ length nodes) × ((l : ℕ) → level ≤ l → l + 1 < level + length nodes → mine l ≡ theirs l) ×
    ((l : ℕ) → l + 1 ≡ level + length nodes → mine l ≢ theirs l)

-- with the same in the places of its nodes the branch is there still
abbrev pub BranchStays : Type 0
BranchStays =
    (mine theirs : ℕ → ℕ) (cell cell' : Place → Cell) (leaf other : Cell) (level first : ℕ) (nodes : List ℕ) →
    IsBranch mine theirs cell leaf other level first nodes → AreDigits mine → AreDigits theirs → 1 ≤ level →
    ((node digit : ℕ) → Contains nodes node → digit < 16 → cell' (Node node digit) ≡ cell (Node node digit)) →
    IsBranch mine theirs cell' leaf other level first nodes

-- the place is that of a new node, which the path meets behind the place where they grew: the first a level below it, and so on
pub record IsGrownPlace (digits : ℕ → ℕ) (cell : Place → Cell) (level : ℕ) (p : Place) (nodes : List ℕ) (l : ℕ) (q : Place) : Type 0 where
  pub from : IsOnPath digits cell level p
  pub below : level < l
  pub last : l ≤ level + length nodes
  pub within : IsPlaceOf nodes q
  pub is : q ≡ Node (slice_index nodes (l - (level + 1))) (digits l)

-- the node is a new one, in the order of the levels
pub record IsGrownNode (digits : ℕ → ℕ) (cell : Place → Cell) (level : ℕ) (p : Place) (nodes : List ℕ) (l node : ℕ) : Type 0 where
  pub from : IsOnPath digits cell level p
  pub below : level ≤ l
  pub last : l < level + length nodes
  pub within : Contains nodes node
  pub is : node ≡ slice_index nodes (l - level)

-- where a place of the path now lies: on the path as it was, but not where the nodes grew; there; or in one of them
pub data IsPlaceNow (digits : ℕ → ℕ) (cell cell' : Place → Cell) (level : ℕ) (p : Place) (nodes : List ℕ) (l : ℕ) (q : Place) : Type 0 where
  place_stays : IsOnPath digits cell l q → q ≢ p → cell' q ≡ cell q → IsPlaceNow digits cell cell' level p nodes l q
  place_is_there : IsOnPath digits cell level p → l ≡ level → q ≡ p → IsPlaceNow digits cell cell' level p nodes l q
  place_grew : IsGrownPlace digits cell level p nodes l q → IsPlaceNow digits cell cell' level p nodes l q

-- where the path now ends: as it did, or in a new node, where it ended where they grew
pub data IsEndNow (digits : ℕ → ℕ) (cell cell' : Place → Cell) (leaf other : Cell) (level : ℕ) (p : Place) (nodes : List ℕ) (l : ℕ) (q : Place) : Type 0 where
  end_stays : EndsAt digits cell l q → q ≢ p → cell' q ≡ cell q → IsEndNow digits cell cell' leaf other level p nodes l q
  end_grew : EndsAt digits cell level p → IsGrownPlace digits cell level p nodes l q →
      (cell' q ≡ Cells.Empty) ⊎ (cell' q ≡ leaf) ⊎ (cell' q ≡ other) → IsEndNow digits cell cell' leaf other level p nodes l q

-- which node the path now meets: one that it met, or a new one
pub data IsNodeNow (digits : ℕ → ℕ) (cell : Place → Cell) (level : ℕ) (p : Place) (nodes : List ℕ) (l : ℕ) (q : Place) (node : ℕ) : Type 0 where
  node_stays : IsOnPath digits cell l q → q ≢ p → cell q ≡ Cells.Node node → IsNodeNow digits cell level p nodes l q node
  node_grew : IsGrownNode digits cell level p nodes l node → IsNodeNow digits cell level p nodes l q node

-- what becomes of each path: its places, its end and its nodes; that old places and ends stay; and that the two keys find their leaves
pub record PathsAfterGrowth (mine theirs : ℕ → ℕ) (cell cell' : Place → Cell) (leaf other : Cell) (level : ℕ) (p : Place) (nodes : List ℕ) : Type 0 where
  pub places : (digits : ℕ → ℕ) (l : ℕ) (q : Place) → AreDigits digits → IsOnPath digits cell' l q → IsPlaceNow digits cell cell' level p nodes l q
  pub ends : (digits : ℕ → ℕ) (l : ℕ) (q : Place) → AreDigits digits → EndsAt digits cell' l q → IsEndNow digits cell cell' leaf other level p nodes l q
  pub nodes_met : (digits : ℕ → ℕ) (l : ℕ) (q : Place) (node : ℕ) → AreDigits digits → IsOnPath digits cell' l q → cell' q ≡ Cells.Node node →
      IsNodeNow digits cell level p nodes l q node
  pub old_places : (digits : ℕ → ℕ) (l : ℕ) (q : Place) → AreDigits digits → IsOnPath digits cell l q → IsOnPath digits cell' l q
  pub old_ends : (digits : ℕ → ℕ) (l : ℕ) (q : Place) → AreDigits digits → EndsAt digits cell l q → q ≢ p → EndsAt digits cell' l q
  pub mine_found : (l : ℕ) (q : Place) → AreDigits mine → EndsAt mine cell' l q → cell' q ≡ leaf
  pub theirs_found : (l : ℕ) (q : Place) → AreDigits theirs → EndsAt theirs cell' l q → cell' q ≡ other

-- that becomes of them wherever a branch grows
abbrev pub GrowthIsTold : Type 0
GrowthIsTold =
    (mine theirs : ℕ → ℕ) (cell cell' : Place → Cell) (leaf other : Cell) (level : ℕ) (p : Place) (first : ℕ) (nodes : List ℕ) →
    GrowsBranch mine theirs cell cell' leaf other level p first nodes → PathsAfterGrowth mine theirs cell cell' leaf other level p nodes

-- the path goes down through the nodes, one a level, of which the first is met behind that level
abbrev pub GoesDownBranch : (ℕ → ℕ) → (Place → Cell) → ℕ → List ℕ → Type 0
GoesDownBranch digits cell level nodes =
    (l : ℕ) → level < l → l ≤ level + length nodes → IsOnPath digits cell l (Node (slice_index nodes (l - (level + 1))) (digits l))

-- the path of either key goes down through all of a branch that grows
abbrev pub KeysGoDown : Type 0
KeysGoDown =
    (mine theirs : ℕ → ℕ) (cell cell' : Place → Cell) (leaf other : Cell) (level : ℕ) (p : Place) (first : ℕ) (nodes : List ℕ) →
    GrowsBranch mine theirs cell cell' leaf other level p first nodes → AreDigits mine → AreDigits theirs →
    GoesDownBranch mine cell' level nodes × GoesDownBranch theirs cell' level nodes

-- a place of the new nodes where a leaf stands, met by whichever path, is one of its own key's path, at the same level
pub record LeavesAreHome (mine theirs : ℕ → ℕ) (cell' : Place → Cell) (leaf other : Cell) (nodes : List ℕ) : Type 0 where
  pub mine_home : (digits : ℕ → ℕ) (l : ℕ) (q : Place) → AreDigits digits → IsOnPath digits cell' l q → IsPlaceOf nodes q → cell' q ≡ leaf → IsOnPath mine cell' l q
  pub theirs_home : (digits : ℕ → ℕ) (l : ℕ) (q : Place) → AreDigits digits → IsOnPath digits cell' l q → IsPlaceOf nodes q → cell' q ≡ other → IsOnPath theirs cell' l q

-- so it is wherever a branch grows whose leaves are two and neither of them an empty place
abbrev pub GrownLeavesAreHome : Type 0
GrownLeavesAreHome =
    (mine theirs : ℕ → ℕ) (cell cell' : Place → Cell) (leaf other : Cell) (level : ℕ) (p : Place) (first : ℕ) (nodes : List ℕ) →
    GrowsBranch mine theirs cell cell' leaf other level p first nodes → AreDigits mine → AreDigits theirs →
    leaf ≢ other → leaf ≢ Cells.Empty → other ≢ Cells.Empty → LeavesAreHome mine theirs cell' leaf other nodes
