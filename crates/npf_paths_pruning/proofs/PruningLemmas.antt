-- The paths where an emptied node is taken off.
use Rattle.std.proofs.Common.{◌≡◌, ◌≢◌, ℕ, ◌+◌, inl, inr, refl, ap, sym, ◌∙◌, arith}
use Rattle.npf_paths.specs.{declared.{cell.Cell.Cell, place.Place.{Place, TheVariants.Node}}, FillingLaw.FillsPlace, LevelLaw.MeetsAtOneLevel}
use Rattle.npf_paths.specs.declared.cell.Cell.TheVariants as Cells
use Rattle.npf_paths.{specs.Paths.{AreDigits, IsOnPath, IsEnd, EndsAt, IsOnPath.{at_root, further}}, proofs.FillingLemmas.{same_or_apart, apart_from_end}}
use Rattle.npf_paths.proofs.PathLemmas.{node_no_end}
use Rattle.npf_paths_pruning.specs.Pruning.{PrunesNode, ClearsMark}
use Rattle.npf_paths_pruning.specs.PruningLaw.{HangsThereAlone, IsPrunedPlace, IsPlaceLeft, IsEndLeft, IsOldEnd, PathsAfterPruning}
use Rattle.npf_paths_pruning.specs.PruningLaw.IsPlaceLeft.{place_left, place_pruned}

module _ (cell cell' : Place → Cell) (p : Place) (node : ℕ) (prunes : PrunesNode cell cell' p node) where
  -- what a path meets it met before
  pub met_before : (digits : ℕ → ℕ) (level : ℕ) (q : Place) → IsOnPath digits cell' level q → IsOnPath digits cell level q
  met_before digits level q at_root = at_root
  met_before digits level q (further above r next on is) =
      further above r next (met_before digits above r on) (sym (prunes.others r (apart_from_end cell' p r next prunes.ends_now is)) ∙ is)

  -- in the node's place of a digit stood nothing
  bare : (digits : ℕ → ℕ) (level : ℕ) → AreDigits digits → cell (Node node (digits (level + 1))) ≡ Cells.Empty
  bare digits level small = prunes.emptied (digits (level + 1)) (small.node (level + 1) (omega arith))

  -- behind a place that is left comes one that is left, unless that is where the node hung
  behind_left : (digits : ℕ → ℕ) (level next : ℕ) (q : Place) → IsOnPath digits cell' level q → cell q ≡ Cells.Node next →
      IsPlaceLeft digits cell' p node (level + 1) (Node next (digits (level + 1)))
  behind_left digits level next q on is =
      elim (same_or_apart q p) [
        | inl e ↦
            let nodes_same : Cells.Node next ≡ Cells.Node node = sym is ∙ (ap cell e ∙ prunes.hung) in
            let node_is : next ≡ node = cc in
            place_pruned (record { above = level; from = rw (← e) on; below = refl; is = ap (λ n. Node n (digits (level + 1))) node_is })
        | inr apart ↦ place_left (further level q next on (prunes.others q apart ∙ is))
      ]

  -- nothing is met behind a place of the node
  none_behind : (digits : ℕ → ℕ) (level next : ℕ) (q : Place) → AreDigits digits → IsPrunedPlace digits cell' p node level q → ¬ (cell q ≡ Cells.Node next)
  none_behind digits level next q small within is =
      let there : q ≡ Node node (digits (within.above + 1)) = within.is ∙ ap (λ l. Node node (digits l)) within.below in
      let empty : cell q ≡ Cells.Empty = ap cell there ∙ bare digits within.above small in
      let both : Cells.Empty ≡ Cells.Node next = sym empty ∙ is in
      cc

  behind : (digits : ℕ → ℕ) (level next : ℕ) (q : Place) → AreDigits digits → IsPlaceLeft digits cell' p node level q → cell q ≡ Cells.Node next →
      IsPlaceLeft digits cell' p node (level + 1) (Node next (digits (level + 1)))
  behind digits level next q small (place_left on) is = behind_left digits level next q on is
  behind digits level next q small (place_pruned within) is = absurd (none_behind digits level next q small within is)

  -- what a path met is left, or was in the node
  pub left_over : (digits : ℕ → ℕ) (level : ℕ) (q : Place) → AreDigits digits → IsOnPath digits cell level q → IsPlaceLeft digits cell' p node level q
  left_over digits level q small at_root = place_left at_root
  left_over digits level q small (further above r next on is) = behind digits above next r small (left_over digits above r small on) is

  -- a path that ends where the node hung ended in the node
  pub end_before : (digits : ℕ → ℕ) (level : ℕ) (q : Place) → AreDigits digits → EndsAt digits cell' level q → IsEndLeft digits cell cell' p node level q
  end_before digits level q small ends =
      let on : IsOnPath digits cell level q = met_before digits level q ends.on_path in
      elim (same_or_apart q p) [
        | inl e ↦
            let empty = bare digits level small in
            let met : IsOnPath digits cell (level + 1) (Node node (digits (level + 1))) = further level q node on (ap cell e ∙ prunes.hung) in
            IsEndLeft.end_pruned e (record { on_path = met; is_end = rw empty tt }) empty
        | inr apart ↦
            let same : cell' q ≡ cell q = prunes.others q apart in
            IsEndLeft.end_left (record { on_path = on; is_end = rw (← same) ends.is_end }) apart same
      ]

  -- an end of before is left, or was in the node
  end_over : (digits : ℕ → ℕ) (level : ℕ) (q : Place) → IsEnd (cell q) → IsPlaceLeft digits cell' p node level q → IsOldEnd digits cell' p node level q
  end_over digits level q ends (place_left on) =
      let apart : q ≢ p = λ e. node_no_end (cell q) node ends (ap cell e ∙ prunes.hung) in
      IsOldEnd.old_end_left (record { on_path = on; is_end = rw (prunes.others q apart) ends })
  end_over digits level q ends (place_pruned within) =
      IsOldEnd.old_end_pruned within.above within.below within.is (record { on_path = within.from; is_end = prunes.ends_now })

  pub pruning_told : PathsAfterPruning cell cell' p node
  pruning_told = record {
    places = met_before;
    old_places = left_over;
    ends = end_before;
    old_ends = λ digits level q small ends. end_over digits level q ends.is_end (left_over digits level q small ends.on_path);
  }

  pub pruned_levels : MeetsAtOneLevel cell → MeetsAtOneLevel cell'
  pruned_levels levels digits digits' l l' q small small' on on' =
      levels digits digits' l l' q small small' (met_before digits l q on) (met_before digits' l' q on')

  -- whoever meets the node meets it by another place
  met_by : (digits : ℕ → ℕ) (level digit : ℕ) (q : Place) → HangsThereAlone cell p node → AreDigits digits → q ≡ Node node digit → ¬ (IsOnPath digits cell' level q)
  met_by digits level digit q alone small is at_root = absurd cc
  met_by digits level digit q alone small is (further above r next on there) =
      let node_is : next ≡ node = cc in
      let apart : r ≢ p = apart_from_end cell' p r next prunes.ends_now there in
      let before : cell r ≡ Cells.Node node = sym (prunes.others r apart) ∙ (there ∙ ap Cells.Node node_is) in
      apart (alone digits above r small (met_before digits above r on) before)

  pub pruned_unmet : HangsThereAlone cell p node → (digits : ℕ → ℕ) (level digit : ℕ) → AreDigits digits → ¬ (IsOnPath digits cell' level (Node node digit))
  pruned_unmet alone digits level digit small = met_by digits level digit (Node node digit) alone small refl

-- a mark that is cleared is a place that is filled
pub clearing_fills : (cell cell' : Place → Cell) (p : Place) → ClearsMark cell cell' p → FillsPlace cell cell' p
clearing_fills cell cell' p clears = record { was_end = rw clears.marked tt; ends_now = rw clears.cleared tt; others = clears.others }
