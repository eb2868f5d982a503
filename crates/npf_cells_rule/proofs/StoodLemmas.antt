-- What a step finds, in the state that it meets.
use Rattle.std.proofs.Common.{◌≡◌, ℕ, true, slice_index, sym, ap, subst}
use mathlib.Core.Option.{some}
use lib.ListN.{get_elem?}
use Rattle.atomic_table.{specs.Table.State, proofs.Lists.at_map}
use Rattle.npf_types.specs.declared.key.Key.{Key}
use Rattle.npf_core.specs.Meaning.{Meaning}
use Rattle.npf_cells_words.specs.declared.layout.Layout.{Layout}
use Rattle.npf_cells_rule.specs.{declared.view.CellView.CellView, Cells.IsCells, Stood.StoodSo, Views.seat_side}
use Rattle.npf_cells_lives.specs.Turns.{Running}

module _ {S A R : Type 0} (m : Meaning S A R) (digest : Key → ℕ) (layout : Layout) where
  -- what a step finds, in the state that it meets
  pub stood_so : (s : State (Running S) (CellView S A R)) (id : ℕ) (v : CellView S A R) (word i : ℕ) → IsCells m digest layout s → get_elem? s.views id ≡ some v → v.seats.lives ≡ true → i ≡ word →
      StoodSo m digest layout v word (slice_index s.words i)
  stood_so s id v word i kept at lives there =
      let number = ((kept.seats.each id v.seats (at_map seat_side s.views id v at)).lives lives).number in
      record {
        state = s;
        rule = kept;
        seated = subst (λ n. get_elem? s.views n ≡ some v) (sym number) at;
        there = ap (slice_index s.words) (sym there);
      }
