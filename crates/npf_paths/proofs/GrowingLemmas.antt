-- The paths where a branch grows.
use Rattle.std.proofs.Common.{◌≡◌, ◌≢◌, ℕ, ◌+◌, ◌-◌, ◌⊎◌, inl, inr, List, [], ◌∷◌, ◌++◌, get_or, refl, ap, sym, ◌∙◌, arith, append_assoc, length-append}
use Rattle.npf_paths.specs.{declared.{cell.Cell.Cell, place.Place.{Place, TheVariants.{Root, Node}}}, Growing.GrowsBranch}
use Rattle.npf_paths.specs.declared.cell.Cell.TheVariants as Cells
use Rattle.npf_paths.specs.GrowingLaw.{IsGrownPlace, IsGrownNode, IsPlaceNow, IsEndNow, IsNodeNow, PathsAfterGrowth}
use Rattle.npf_paths.specs.Paths.{AreDigits, IsOnPath, IsEnd, EndsAt, IsOnPath.{at_root, further}}
use Rattle.npf_paths.proofs.BranchLemmas.{mine_at_foot, theirs_at_foot, Stands, stands, IsInBranch, grown_place}
use Rattle.npf_paths.proofs.{BranchLemmas.Stands.{stands_empty, stands_leaf, stands_other, stands_node}, FillingLemmas.{same_or_apart, apart_from_end}}
use Rattle.npf_paths.proofs.PathLemmas.{node_no_end, one_end}

module _ (mine theirs : ℕ → ℕ) (cell cell' : Place → Cell) (leaf other : Cell) (level : ℕ) (p : Place) (first : ℕ) (nodes : List ℕ) where
  -- a path in the grown trie has met a place of before, the one where the branch grew, or one within it
  pub data Meets (digits : ℕ → ℕ) (l : ℕ) (q : Place) : Type 0 where
    met_before : IsOnPath digits cell l q → q ≢ p → Meets digits l q
    met_there : IsOnPath digits cell level p → l ≡ level → q ≡ p → Meets digits l q
    met_within : IsOnPath digits cell level p → IsInBranch mine theirs cell' leaf other level nodes digits l q → Meets digits l q

  module _ (grows : GrowsBranch mine theirs cell cell' leaf other level p first nodes) (digits : ℕ → ℕ) (small : AreDigits digits) where
    -- a place of before keeps its cell
    pub kept : (l : ℕ) (q : Place) → IsOnPath digits cell l q → q ≢ p → cell' q ≡ cell q
    kept l q on apart = grows.others q apart (grows.fresh digits l q small on)

    met_old : (l : ℕ) (q : Place) → IsOnPath digits cell l q → Meets digits l q
    met_old l q on =
        elim (same_or_apart q p) [
          | inl e ↦
              let at : IsOnPath digits cell l p = rw (← e) on in
              let same : l ≡ level = grows.at_level digits l small at in
              Meets.met_there (rw (← same) at) same e
          | inr apart ↦ Meets.met_before on apart
        ]

    -- the place behind p is the first within
    first_within : (l node : ℕ) (q : Place) → l ≡ level → q ≡ p → cell' q ≡ Cells.Node node →
        IsInBranch mine theirs cell' leaf other level nodes digits (l + 1) (Node node (digits (l + 1)))
    first_within l node q same e is =
        let hangs : Cells.Node node ≡ Cells.Node first = sym is ∙ (ap cell' e ∙ grows.hangs) in
        let node_is : node ≡ first = cc in
        record {
          front = [];
          node = first;
          rest = nodes;
          branch = rw same grows.branch;
          is = ap (λ n. Node n (digits (l + 1))) node_is;
          joined = refl;
          reached = omega arith;
        }

    -- and the one behind a place within is within
    next_within : (l node : ℕ) (q : Place) (b : IsInBranch mine theirs cell' leaf other level nodes digits l q) → cell' q ≡ Cells.Node node →
        Stands mine theirs cell' leaf other l b.node b.rest (digits l) →
        IsInBranch mine theirs cell' leaf other level nodes digits (l + 1) (Node node (digits (l + 1)))
    next_within l node q b is (stands_empty e) = let empty : cell' q ≡ Cells.Empty = ap cell' b.is ∙ e in absurd cc
    next_within l node q b is (stands_leaf e) = absurd (node_no_end leaf node grows.leaf_ends (sym e ∙ (sym (ap cell' b.is) ∙ is)))
    next_within l node q b is (stands_other e) = absurd (node_no_end other node grows.other_ends (sym e ∙ (sym (ap cell' b.is) ∙ is)))
    next_within l node q b is (stands_node next tail e t below) =
        let nodes_same : Cells.Node node ≡ Cells.Node next = sym is ∙ (ap cell' b.is ∙ e) in
        let node_is : node ≡ next = cc in
        let reached = b.reached in
        record {
          front = b.front ++ b.node ∷ [];
          node = next;
          rest = tail;
          branch = below;
          is = ap (λ n. Node n (digits (l + 1))) node_is;
          joined = b.joined ∙ (ap (λ xs. b.front ++ xs) t ∙ sym (append_assoc b.front (b.node ∷ []) tail));
          reached = omega (arith, length-append b.front (b.node ∷ []));
        }

    standing : (l : ℕ) (q : Place) (b : IsInBranch mine theirs cell' leaf other level nodes digits l q) → Stands mine theirs cell' leaf other l b.node b.rest (digits l)
    standing l q b = let reached = b.reached in stands b.branch (digits l) (small.node l (omega arith))

    next_met : (l node : ℕ) (q : Place) → cell' q ≡ Cells.Node node → Meets digits l q → Meets digits (l + 1) (Node node (digits (l + 1)))
    next_met l node q is (Meets.met_before on apart) = met_old (l + 1) (Node node (digits (l + 1))) (further l q node on (sym (kept l q on apart) ∙ is))
    next_met l node q is (Meets.met_there from same e) = Meets.met_within from (first_within l node q same e is)
    next_met l node q is (Meets.met_within from b) = Meets.met_within from (next_within l node q b is (standing l q b))

    pub meets : (l : ℕ) (q : Place) → IsOnPath digits cell' l q → Meets digits l q
    meets l q at_root = met_old 0 (Root (digits 0)) at_root
    meets l q (further l' q' node on is) = next_met l' node q' is (meets l' q' on)

    -- the place
    pub place_now : (l : ℕ) (q : Place) → Meets digits l q → IsPlaceNow digits cell cell' level p nodes l q
    place_now l q (Meets.met_before on apart) = IsPlaceNow.place_stays on apart (kept l q on apart)
    place_now l q (Meets.met_there from same e) = IsPlaceNow.place_is_there from same e
    place_now l q (Meets.met_within from b) = IsPlaceNow.place_grew (grown_place from b)

    -- the end
    at_foot : (l : ℕ) (q : Place) (b : IsInBranch mine theirs cell' leaf other level nodes digits l q) → IsEnd (cell' q) →
        Stands mine theirs cell' leaf other l b.node b.rest (digits l) → (cell' q ≡ Cells.Empty) ⊎ (cell' q ≡ leaf) ⊎ (cell' q ≡ other)
    at_foot l q b ends (stands_empty e) = inl (ap cell' b.is ∙ e)
    at_foot l q b ends (stands_leaf e) = inr (inl (ap cell' b.is ∙ e))
    at_foot l q b ends (stands_other e) = inr (inr (ap cell' b.is ∙ e))
    at_foot l q b ends (stands_node next tail e t below) = absurd (node_no_end (cell' q) next ends (ap cell' b.is ∙ e))

    pub end_now : (l : ℕ) (q : Place) → IsEnd (cell' q) → Meets digits l q → IsEndNow digits cell cell' leaf other level p nodes l q
    end_now l q ends (Meets.met_before on apart) =
        IsEndNow.end_stays (record { on_path = on; is_end = rw (← kept l q on apart) ends }) apart (kept l q on apart)
    end_now l q ends (Meets.met_there from same e) = absurd (node_no_end (cell' q) first ends (ap cell' e ∙ grows.hangs))
    end_now l q ends (Meets.met_within from b) =
        IsEndNow.end_grew (record { on_path = from; is_end = grows.was_end }) (grown_place from b) (at_foot l q b ends (standing l q b))

    -- the node
    grown_node : (l node : ℕ) → IsGrownPlace digits cell level p nodes (l + 1) (Node node (digits (l + 1))) → IsGrownNode digits cell level p nodes l node
    grown_node l node g =
        let below = g.below in
        let last = g.last in
        let node_is : node ≡ get_or nodes (l + 1 - (level + 1)) 0 = let is = g.is in cc in
        let at : l + 1 - (level + 1) ≡ l - level = omega arith in
        record { from = g.from; below = omega arith; last = omega arith; within = g.within; is = node_is ∙ ap (λ k. get_or nodes k 0) at }

    pub node_now : (l node : ℕ) (q : Place) → cell' q ≡ Cells.Node node → Meets digits l q → IsNodeNow digits cell level p nodes l q node
    node_now l node q is (Meets.met_before on apart) = IsNodeNow.node_stays on apart (sym (kept l q on apart) ∙ is)
    node_now l node q is (Meets.met_there from same e) = IsNodeNow.node_grew (grown_node l node (grown_place from (first_within l node q same e is)))
    node_now l node q is (Meets.met_within from b) = IsNodeNow.node_grew (grown_node l node (grown_place from (next_within l node q b is (standing l q b))))

    -- a place of before is met still
    pub old_place : (l : ℕ) (q : Place) → IsOnPath digits cell l q → IsOnPath digits cell' l q
    old_place l q at_root = at_root
    old_place l q (further l' q' node on is) =
        further l' q' node (old_place l' q' on) (kept l' q' on (apart_from_end cell p q' node grows.was_end is) ∙ is)

    pub old_end : (l : ℕ) (q : Place) → EndsAt digits cell l q → q ≢ p → EndsAt digits cell' l q
    old_end l q ends apart = record { on_path = old_place l q ends.on_path; is_end = rw (kept l q ends.on_path apart) ends.is_end }

    -- the end of a path that came to p is within
    pub end_within : (l : ℕ) (q : Place) → IsOnPath digits cell level p → IsEnd (cell' q) → Meets digits l q →
        IsInBranch mine theirs cell' leaf other level nodes digits l q
    end_within l q from ends (Meets.met_before on apart) =
        let before : EndsAt digits cell l q = record { on_path = on; is_end = rw (← kept l q on apart) ends } in
        let there : EndsAt digits cell level p = record { on_path = from; is_end = grows.was_end } in
        absurd (apart (one_end before there).1)
    end_within l q from ends (Meets.met_there _ same e) = absurd (node_no_end (cell' q) first ends (ap cell' e ∙ grows.hangs))
    end_within l q from ends (Meets.met_within _ b) = b

  module _ (grows : GrowsBranch mine theirs cell cell' leaf other level p first nodes) where
    pub mine_found : (l : ℕ) (q : Place) → AreDigits mine → EndsAt mine cell' l q → cell' q ≡ leaf
    mine_found l q small ends =
        let b = end_within grows mine small l q grows.mine_there ends.is_end (meets grows mine small l q ends.on_path) in
        rw b.is (mine_at_foot b.branch (rw b.is at ends.is_end))

    pub theirs_found : (l : ℕ) (q : Place) → AreDigits theirs → EndsAt theirs cell' l q → cell' q ≡ other
    theirs_found l q small ends =
        let b = end_within grows theirs small l q grows.theirs_there ends.is_end (meets grows theirs small l q ends.on_path) in
        rw b.is (theirs_at_foot b.branch (rw b.is at ends.is_end))

    -- what becomes of each path
    pub growth_told : PathsAfterGrowth mine theirs cell cell' leaf other level p nodes
    growth_told = record {
      places = λ digits l q small on. place_now grows digits small l q (meets grows digits small l q on);
      ends = λ digits l q small ends. end_now grows digits small l q ends.is_end (meets grows digits small l q ends.on_path);
      nodes_met = λ digits l q node small on is. node_now grows digits small l node q is (meets grows digits small l q on);
      old_places = λ digits l q small. old_place grows digits small l q;
      old_ends = λ digits l q small. old_end grows digits small l q;
      mine_found = mine_found;
      theirs_found = theirs_found;
    }
