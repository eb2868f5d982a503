-- That each of these steps keeps the rule, and tells what it says, whatever else passes do.
use Rattle.std.specs.Prelude.{[], None, eqb, false, length, true, ℕ, ◌+◌, ◌<◌, ◌^◌, ◌≡◌, ◌≤◌}
use prog.Atomic.{either}
use Rattle.atomic_table.specs.Table.{Allows, Joins, Me, Splits, Step}
use Rattle.npf_types.specs.declared.key.Key.{Key}
use Rattle.npf_core.specs.Meaning.{Meaning}
use Rattle.npf_cells_words.specs.declared.layout.Layout.{Layout}
use Rattle.npf_cells_words.specs.Layout.{reader_at}
use Rattle.npf_cells_pins.specs.declared.pin.Pin.TheVariants.{Idle, Pinned}
use Rattle.npf_cells_pins.specs.Epochs.{HasScannedAll, pin_place}
use Rattle.npf_cells_rule.specs.declared.view.CellView.{CellView}
use Rattle.npf_cells_rule.specs.Cells.{IsCells}
use Rattle.npf_cells_rule.specs.Views.{nothing_left}
use Rattle.npf_cells_moves.specs.Kinds.{Loads, Pins, Protects, RaisesEpoch, Scans, Unpins}
use Rattle.npf_cells_moves.specs.Moves.{HasRead, IsBorn, given_view, gives_reader, takes_in}
use Rattle.npf_cells_lives.specs.Turns.{Running}

-- the base's moves and the steps on the epoch and on the readers keep the rule, and tell what they say
pub record KeepsMoves {S A R : Type 0} (m : Meaning S A R) (digest : Key → ℕ) (layout : Layout) : Type 0 where
  pub splits : (id : ℕ) (v : CellView S A R) → v.seats.lives ≡ true → v.epochs.pin ≡ Idle → 2 ≤ length v.seats.readers → Splits (IsCells m digest layout) id v (gives_reader v) (given_view v)
  pub born : (st : Step (Running S)) (id n i : ℕ) (me : Me (Running S) (CellView S A R)) → me.0.seats.lives ≡ false → 1 ≤ length me.0.seats.readers → Allows (IsCells m digest layout) n id me i (λ k. k) (IsBorn m st me)
  pub joins : (id : ℕ) (v : CellView S A R) (other : ℕ) (w : CellView S A R) → v.seats.lives ≡ true → v.seats.theirs ≡ [] → v.epochs.pin ≡ Idle → 1 ≤ length v.seats.readers → w.seats.lives ≡ true → w.seats.theirs ≡ [] → w.epochs.pin ≡ Idle → w.pools.nodes ≡ [] → w.pools.builds ≡ [] → w.pools.kills ≡ [] → w.pools.reclaims ≡ [] → w.pools.cleared ≡ [] → w.trie.locks ≡ [] → w.turn ≡ None → Joins (IsCells m digest layout) id v other w (takes_in v w) nothing_left
  pub reads : (st : Step (Running S)) (id n i : ℕ) (me : Me (Running S) (CellView S A R)) → me.0.seats.lives ≡ true → 1 ≤ length me.0.seats.readers → Allows (IsCells m digest layout) n id me i (λ k. k) (HasRead m st me)
  pub loads : (st : Step (Running S)) (id n : ℕ) (me : Me (Running S) (CellView S A R)) → 1 ≤ length me.0.seats.readers → Allows (IsCells m digest layout) n id me 0 (λ k. k) (Loads st me)
  pub pins : (st : Step (Running S)) (id n place epoch : ℕ) (me : Me (Running S) (CellView S A R)) → place ≡ pin_place me.0.seats.readers → 1 ≤ length me.0.seats.readers → me.0.epochs.loaded ≡ epoch → me.0.epochs.pin ≡ Idle → Allows (IsCells m digest layout) n id me (reader_at place) (λ _. epoch + 1) (λ _. Pins st me (epoch + 1))
  pub protects : (st : Step (Running S)) (id n epoch : ℕ) (me : Me (Running S) (CellView S A R)) → me.0.epochs.pin ≡ Pinned epoch → 1 ≤ length me.0.seats.readers → Allows (IsCells m digest layout) n id me 0 (λ k. k) (Protects st me)
  pub unpins : (st : Step (Running S)) (id n place : ℕ) (me : Me (Running S) (CellView S A R)) → place ≡ pin_place me.0.seats.readers → 1 ≤ length me.0.seats.readers → me.0.trie.locks ≡ [] → Allows (IsCells m digest layout) n id me (reader_at place) (λ _. 0) (λ _. Unpins st me 0)
  pub scans : (st : Step (Running S)) (id n place : ℕ) (me : Me (Running S) (CellView S A R)) → st.word ≡ reader_at place → me.0.seats.lives ≡ true → 1 ≤ length me.0.seats.readers → Allows (IsCells m digest layout) n id me (reader_at place) (λ k. k) (Scans m digest layout st me)
  pub advances : (st : Step (Running S)) (id n epoch : ℕ) (me : Me (Running S) (CellView S A R)) → me.0.epochs.loaded ≡ epoch → epoch < 2 ^ 62 → HasScannedAll me.0.epochs → 1 ≤ length me.0.seats.readers → Allows (IsCells m digest layout) n id me 0 (λ k. either (eqb k epoch) (epoch + 1) k) (RaisesEpoch st me)
