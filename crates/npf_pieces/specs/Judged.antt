-- How far the pieces of one key are judged.
use Rattle.std.specs.Prelude.{◌≡◌, ℕ, ◌≤◌, ◌<◌, List, [], ◌++◌, All, length, map, slice_range}
use Rattle.npf_pieces.specs.declared.arrived.Arrived.{Arrived}
use Rattle.npf_pieces.specs.declared.arrived.SetAt.{SetAt}
use Rattle.npf_pieces.specs.declared.overlap.OpenSet.{OpenSet}
use Rattle.npf_pieces.specs.declared.sets.SetFinder.{SetFinder}
use Rattle.npf_pieces.specs.Overlap.{KnowsSet}
use Rattle.npf_pieces.specs.Sets.{Set, StandsIn, set_at, sets_from}

-- how many pieces a finder of sets has judged
abbrev pub reached : SetFinder → ℕ
reached finder = finder.known.behind

-- the pieces of the open set
abbrev pub pieces_of : List Arrived → OpenSet → List Arrived
pieces_of all known = slice_range all known.first known.behind

-- the sets that ended are these, and with those that are still to come of the open set and the pieces behind it, up to `to`, they
-- are the ones that are wanted
pub record IsJudged (all : List Arrived) (to : ℕ) (wanted : List Set) (known : OpenSet) (sets : List SetAt) : Type 0 where
  pub within : known.behind ≤ to
  pub places : All (StandsIn (length all)) sets
  pub knows : KnowsSet (pieces_of all known) known
  pub so_far : map (set_at all) sets ++ sets_from (pieces_of all known) (slice_range all known.behind to) ≡ wanted

-- what was judged is judged still, once more pieces are
abbrev pub KeepsJudged : List Arrived → OpenSet → List SetAt → OpenSet → List SetAt → Type 0
KeepsJudged all old had new have = (to : ℕ) (wanted : List Set) → old.behind < to → to ≤ length all
    → IsJudged all to wanted old had → IsJudged all to wanted new have

-- where no more pieces come, the sets are those that were wanted
abbrev pub EndsJudged : List Arrived → OpenSet → List SetAt → List SetAt → Type 0
EndsJudged all old had have = (wanted : List Set) → IsJudged all old.behind wanted old had
    → (map (set_at all) have ≡ wanted) × All (StandsIn (length all)) have
