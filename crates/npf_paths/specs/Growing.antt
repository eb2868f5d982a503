-- New nodes in the place of a leaf: one a level, down to and with that at which two keys part, with both leaves at the foot.
use Rattle.std.specs.Prelude.{◌≡◌, ◌≢◌, ℕ, ◌+◌, ◌<◌, List, [], ◌∷◌, Contains}
use Rattle.npf_paths.specs.declared.cell.Cell.{Cell}
use Rattle.npf_paths.specs.declared.cell.Cell.TheVariants as Cells
use Rattle.npf_paths.specs.declared.place.Place.{Place}
use Rattle.npf_paths.specs.declared.place.Place.TheVariants.{Root, Node}
use Rattle.npf_paths.specs.Paths.{AreDigits, IsOnPath, IsEnd}

-- a place of one of these nodes
abbrev pub IsPlaceOf : List ℕ → Place → Type 0
IsPlaceOf nodes (Root _) = ⊥
IsPlaceOf nodes (Node node _) = Contains nodes node

-- these nodes, of which the first stands at that level, lead on where the digits agree; where they part, the last has either leaf.
-- Their other places are empty
pub data IsBranch (mine theirs : ℕ → ℕ) (cell : Place → Cell) (leaf other : Cell) : ℕ → ℕ → List ℕ → Type 0 where
  parts : (level node : ℕ) → mine level ≢ theirs level → cell (Node node (mine level)) ≡ leaf → cell (Node node (theirs level)) ≡ other →
      ((digit : ℕ) → digit < 16 → digit ≢ mine level → digit ≢ theirs level → cell (Node node digit) ≡ Cells.Empty) → IsBranch mine theirs cell leaf other level node (node ∷ [])
  goes_on : (level node next : ℕ) (nodes : List ℕ) → mine level ≡ theirs level → cell (Node node (mine level)) ≡ Cells.Node next →
      ((digit : ℕ) → digit < 16 → digit ≢ mine level → cell (Node node digit) ≡ Cells.Empty) → IsBranch mine theirs cell leaf other (level + 1) next nodes →
      IsBranch mine theirs cell leaf other level node (node ∷ nodes)

-- what stood in the place p, at which both paths ended, gives way to such nodes. No path met their places before, and each that
-- meets p does so at that level; other places keep what stands there
pub record GrowsBranch (mine theirs : ℕ → ℕ) (cell cell' : Place → Cell) (leaf other : Cell) (level : ℕ) (p : Place) (first : ℕ) (nodes : List ℕ) : Type 0 where
  pub mine_there : IsOnPath mine cell level p
  pub theirs_there : IsOnPath theirs cell level p
  pub was_end : IsEnd (cell p)
  pub leaf_ends : IsEnd leaf
  pub other_ends : IsEnd other
  pub hangs : cell' p ≡ Cells.Node first
  pub branch : IsBranch mine theirs cell' leaf other (level + 1) first nodes
  pub others : (q : Place) → q ≢ p → ¬ (IsPlaceOf nodes q) → cell' q ≡ cell q
  pub fresh : (digits : ℕ → ℕ) (l : ℕ) (q : Place) → AreDigits digits → IsOnPath digits cell l q → ¬ (IsPlaceOf nodes q)
  pub at_level : (digits : ℕ → ℕ) (l : ℕ) → AreDigits digits → IsOnPath digits cell l p → l ≡ level
