-- What a pass may know of a word that it found: a state of the table in which it stood so.
use Rattle.std.specs.Prelude.{◌≡◌, ℕ, slice_index}
use mathlib.Core.Option.{some}
use lib.ListN.{get_elem?}
use Rattle.atomic_table.specs.Table.{State}
use Rattle.npf_types.specs.declared.key.Key.{Key}
use Rattle.npf_core.specs.Meaning.{Meaning}
use Rattle.npf_cells_words.specs.declared.layout.Layout.{Layout}
use Rattle.npf_cells_lives.specs.Turns.{Running}
use Rattle.npf_cells_rule.specs.declared.view.CellView.{CellView}
use Rattle.npf_cells_rule.specs.Cells.{IsCells}

-- the word was this number in a state of the table in which the seat knew and had this
pub record StoodSo {S A R : Type 0} (m : Meaning S A R) (digest : Key → ℕ) (layout : Layout) (view : CellView S A R) (word n : ℕ) : Type 0 where
  pub state : State (Running S) (CellView S A R)
  pub rule : IsCells m digest layout state
  pub seated : get_elem? state.views view.seats.number ≡ some view
  pub there : slice_index state.words word ≡ n
