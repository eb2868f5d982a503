-- What the steps on the epoch and on the readers change in the pass's own view, and what each tells.
use Rattle.std.specs.Prelude.{◌≡◌, ℕ, ◌+◌, ◌≤◌, length}
use Rattle.atomic_table.specs.Table.{Me, Step}
use Rattle.npf_types.specs.declared.key.Key.{Key}
use Rattle.npf_core.specs.Meaning.{Meaning}
use Rattle.npf_connections.specs.Pass.{all_places}
use Rattle.npf_cells_words.specs.declared.layout.Layout.{Layout}
use Rattle.npf_cells_words.specs.Layout.{reader_at}
use Rattle.npf_cells_pins.specs.Pinning.{loading, pinning, protecting, unpinning, scanning, advancing, IsMet}
use Rattle.npf_cells_leaves.specs.Trie.{forgetting}
use Rattle.npf_cells_rule.specs.declared.view.CellView.{CellView}
use Rattle.npf_cells_rule.specs.Stood.{StoodSo}
use Rattle.npf_cells_rule.specs.Views.{with_epochs}

abbrev pub unpinned : {S A R F : Type 0} → Me F (CellView S A R) → Me F (CellView S A R)
unpinned me = (record me.0 { epochs = unpinning me.0.epochs; trie = forgetting me.0.trie }, me.1)

-- where the pass owns all reader places, the epoch is the first and what it raised
abbrev pub IsSole : {S A R : Type 0} → CellView S A R → ℕ → Type 0
IsSole v found = length v.seats.readers ≡ all_places → found ≡ 2 + v.epochs.raises

-- the kinds, as what they tell
pub record Loads {S A R F : Type 0} (step : Step F) (me : Me F (CellView S A R)) (found : ℕ) (next : Me F (CellView S A R)) : Type 0 where
  pub met : IsMet me.0.epochs found
  pub dated : me.0.pools.dated ≤ found
  pub sole : IsSole me.0 found
  pub is : next ≡ with_epochs me (loading me.0.epochs found)

pub record Pins {S A R F : Type 0} (step : Step F) (me : Me F (CellView S A R)) (found : ℕ) (next : Me F (CellView S A R)) : Type 0 where
  pub is : next ≡ with_epochs me (pinning me.0.epochs me.0.epochs.loaded)

pub record Protects {S A R F : Type 0} (step : Step F) (me : Me F (CellView S A R)) (found : ℕ) (next : Me F (CellView S A R)) : Type 0 where
  pub met : IsMet me.0.epochs found
  pub sole : IsSole me.0 found
  pub is : next ≡ with_epochs me (protecting me.0.epochs found)

pub record Unpins {S A R F : Type 0} (step : Step F) (me : Me F (CellView S A R)) (found : ℕ) (next : Me F (CellView S A R)) : Type 0 where
  pub is : next ≡ unpinned me

-- the reader's word is the one after the epoch's and those of the readers before it, and that is what stood in it
pub record Scans {S A R F : Type 0} (m : Meaning S A R) (digest : Key → ℕ) (layout : Layout) (step : Step F) (me : Me F (CellView S A R)) (found : ℕ) (next : Me F (CellView S A R)) : Type 0 where
  pub reader : ℕ
  pub there : step.word ≡ 1 + reader
  pub stood : StoodSo m digest layout me.0 (reader_at reader) found
  pub is : next ≡ with_epochs me (scanning me.0.epochs reader found)

pub record RaisesEpoch {S A R F : Type 0} (step : Step F) (me : Me F (CellView S A R)) (found : ℕ) (next : Me F (CellView S A R)) : Type 0 where
  pub met : IsMet me.0.epochs found
  pub sole : IsSole me.0 found
  pub is : next ≡ with_epochs me (advancing me.0.epochs found)
