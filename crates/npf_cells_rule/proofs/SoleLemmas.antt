-- Where one pass owns all reader places every other seat is spent, and it alone raised the epoch.
use Rattle.std.proofs.Common.{◌≡◌, ◌≢◌, ℕ, ◌+◌, map, length, sym, ap, ◌∙◌, arith}
use mathlib.Core.Option.{some}
use lib.ListN.{get_elem?}
use Rattle.atomic_table.{specs.Table.State, proofs.Lists.at_map}
use Rattle.npf_types.specs.declared.key.Key.{Key}
use Rattle.npf_core.specs.{declared.entry.Entry.Entry, Meaning.Meaning}
use Rattle.npf_connections.specs.Pass.{all_places}
use Rattle.npf_cells_words.specs.{declared.layout.Layout.Layout, Layout.epoch_word}
use Rattle.npf_seats.{specs.declared.side.SeatSide.SeatSide, proofs.SumLemmas.{two_of_sum, sum_alone, from_map}}
use Rattle.npf_cells_pins.specs.Epochs.{ReaderView}
use Rattle.npf_cells_rule.specs.{declared.view.CellView.CellView, Cells.IsCells, Views.{seat_side, reader_view, nothing_left}}
use Rattle.npf_cells_lives.specs.Turns.{Running}

module _ {S A R : Type 0} (m : Meaning S A R) (digest : Key → ℕ) (layout : Layout) (s : State (Running S) (CellView S A R))
    (id : ℕ) (v : CellView S A R) (kept : IsCells m digest layout s) (at : get_elem? s.views id ≡ some v)
    (all : length v.seats.readers ≡ all_places) where
  pub others_spent : (i : ℕ) (u : CellView S A R) → i ≢ id → get_elem? s.views i ≡ some u → u ≡ nothing_left
  others_spent i u ne there =
      let two = two_of_sum (λ (x : SeatSide ℕ (Entry S A R)). length x.readers) (map seat_side s.views) id i v.seats u.seats
      (at_map seat_side s.views id v at) (at_map seat_side s.views i u there) (λ h. ne (sym h)) in
      let total = kept.seats.total in
      (kept.alone i u there).spent (omega (arith, two, total, all))

  pub raised_alone : epoch_word s.words ≡ 2 + v.epochs.raises
  raised_alone =
      let counted = kept.epochs.counted in
      let mine = sum_alone (λ (r : ReaderView). r.side.raises) (map reader_view s.views) id (reader_view v) (at_map reader_view s.views id v at) others in
      omega (arith, counted, mine)
    where
      others : (i : ℕ) (r : ReaderView) → i ≢ id → get_elem? (map reader_view s.views) i ≡ some r → r.side.raises ≡ 0
      others i r ne e =
          let x = from_map reader_view s.views i r e in
          ap (λ (q : ReaderView). q.side.raises) (sym x.2) ∙ ap (λ (u : CellView S A R). u.epochs.raises) (others_spent i x.0 ne x.1)
