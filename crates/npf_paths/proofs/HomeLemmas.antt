-- The paths of a branch's two keys go down through it, and each leaf stands on its own key's path.
use Rattle.std.proofs.Common.{◌≡◌, ◌≢◌, ℕ, ◌+◌, List, ap, sym, ◌∙◌, arith}
use Rattle.npf_paths.specs.{declared.{cell.Cell.Cell, place.Place.{Place, TheVariants.Node}}, Growing.{IsPlaceOf, GrowsBranch}}
use Rattle.npf_paths.specs.declared.cell.Cell.TheVariants as Cells
use Rattle.npf_paths.specs.{GrowingLaw.{GoesDownBranch, LeavesAreHome}, Paths.{AreDigits, IsOnPath, IsOnPath.further}}
use Rattle.npf_paths.proofs.{BranchLemmas.{mine_down, theirs_down, mine_digit, theirs_digit, IsInBranch, grown_place}, GrowingLemmas.{Meets, meets, old_place}}

module _ (mine theirs : ℕ → ℕ) (cell cell' : Place → Cell) (leaf other : Cell) (level : ℕ) (p : Place) (first : ℕ) (nodes : List ℕ) where
  module _ (grows : GrowsBranch mine theirs cell cell' leaf other level p first nodes) where
    -- a path that came to p has the first node next
    at_first : (digits : ℕ → ℕ) → AreDigits digits → IsOnPath digits cell level p → IsOnPath digits cell' (level + 1) (Node first (digits (level + 1)))
    at_first digits small there =
        further level p first (old_place mine theirs cell cell' leaf other level p first nodes grows digits small level p there) grows.hangs

    pub mine_along : AreDigits mine → GoesDownBranch mine cell' level nodes
    mine_along small l below last = mine_down grows.branch (at_first mine small grows.mine_there) l (omega arith) (omega arith)

    pub theirs_along : AreDigits theirs → GoesDownBranch theirs cell' level nodes
    theirs_along small l below last = theirs_down grows.branch (at_first theirs small grows.theirs_there) l (omega arith) (omega arith)

    -- a path that meets a place of a new node is within the branch
    within : (digits : ℕ → ℕ) (l : ℕ) (q : Place) → AreDigits digits → IsPlaceOf nodes q →
        Meets mine theirs cell cell' leaf other level p first nodes digits l q →
        IsOnPath digits cell level p × IsInBranch mine theirs cell' leaf other level nodes digits l q
    within digits l q small new (Meets.met_before on apart) = absurd (grows.fresh digits l q small on new)
    within digits l q small new (Meets.met_there from same e) = absurd (grows.fresh digits level p small from (rw e at new))
    within digits l q small new (Meets.met_within from b) = (from, b)

    -- a place within the branch, at the digit of a key that goes down through it, is one of the key's path
    at_digit : (key digits : ℕ → ℕ) (l : ℕ) (q : Place) → GoesDownBranch key cell' level nodes → IsOnPath digits cell level p →
        IsInBranch mine theirs cell' leaf other level nodes digits l q → digits l ≡ key l → IsOnPath key cell' l q
    at_digit key digits l q down from b same =
        let g = grown_place from b in
        rw (g.is, same) (down l g.below g.last)

    mine_home : AreDigits mine → leaf ≢ other → leaf ≢ Cells.Empty →
        (digits : ℕ → ℕ) (l : ℕ) (q : Place) → AreDigits digits → IsOnPath digits cell' l q → IsPlaceOf nodes q → cell' q ≡ leaf → IsOnPath mine cell' l q
    mine_home small two full digits l q small' on new is =
        let w = within digits l q small' new (meets mine theirs cell cell' leaf other level p first nodes grows digits small' l q on) in
        let reached = w.1.reached in
        at_digit mine digits l q (mine_along small) w.0 w.1
        (mine_digit w.1.branch two full (digits l) (small'.node l (omega arith)) (sym (ap cell' w.1.is) ∙ is))

    theirs_home : AreDigits theirs → leaf ≢ other → other ≢ Cells.Empty →
        (digits : ℕ → ℕ) (l : ℕ) (q : Place) → AreDigits digits → IsOnPath digits cell' l q → IsPlaceOf nodes q → cell' q ≡ other → IsOnPath theirs cell' l q
    theirs_home small two full digits l q small' on new is =
        let w = within digits l q small' new (meets mine theirs cell cell' leaf other level p first nodes grows digits small' l q on) in
        let reached = w.1.reached in
        at_digit theirs digits l q (theirs_along small) w.0 w.1
        (theirs_digit w.1.branch two full (digits l) (small'.node l (omega arith)) (sym (ap cell' w.1.is) ∙ is))

    pub leaves_home : AreDigits mine → AreDigits theirs → leaf ≢ other → leaf ≢ Cells.Empty → other ≢ Cells.Empty →
        LeavesAreHome mine theirs cell' leaf other nodes
    leaves_home small small' two full full' = record { mine_home = mine_home small two full; theirs_home = theirs_home small' two full' }
