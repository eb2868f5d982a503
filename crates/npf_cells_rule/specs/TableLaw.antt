-- What the rule says of seats: of any two, who owns a node and who builds in a slot; of one that is protected, which epochs it may meet; of
-- all, how often they raised the epoch.
use Rattle.std.specs.Prelude.{◌≡◌, ℕ, ◌+◌, ◌≤◌, Contains, map, length}
use mathlib.Core.Option.{some}
use lib.ListN.{get_elem?}
use Rattle.atomic_table.specs.Table.{State}
use Rattle.npf_types.specs.declared.key.Key.{Key}
use Rattle.npf_core.specs.declared.conn_id.ConnId.{ConnId}
use Rattle.npf_core.specs.Meaning.{Meaning}
use Rattle.npf_connections.specs.Pass.{all_places}
use Rattle.npf_cells_words.specs.declared.layout.Layout.{Layout}
use Rattle.npf_cells_words.specs.Layout.{epoch_word}
use Rattle.npf_cells_pins.specs.declared.pin.Pin.TheVariants.{Protected}
use Rattle.npf_cells_pins.specs.Epochs.{all_raises}
use Rattle.npf_cells_lives.specs.Turns.{Running}
use Rattle.npf_cells_rule.specs.declared.view.CellView.{CellView}
use Rattle.npf_cells_rule.specs.Cells.{IsCells}
use Rattle.npf_cells_rule.specs.Views.{reader_view}

-- two seats that own one node are one seat
abbrev pub OwnsAlone : {S A R : Type 0} → Meaning S A R → Layout → Type 0
OwnsAlone {S} {A} {R} m layout =
    (digest : Key → ℕ) (s : State (Running S) (CellView S A R)) (i j node : ℕ) (v w : CellView S A R) → IsCells m digest layout s →
    get_elem? s.views i ≡ some v → get_elem? s.views j ≡ some w → Contains v.pools.nodes node → Contains w.pools.nodes node → i ≡ j

-- two seats that are building connections in one slot are one seat
abbrev pub BuildsAlone : {S A R : Type 0} → Meaning S A R → Layout → Type 0
BuildsAlone {S} {A} {R} m layout =
    (digest : Key → ℕ) (s : State (Running S) (CellView S A R)) (i j : ℕ) (v w : CellView S A R) (id other : ConnId) → IsCells m digest layout s →
    get_elem? s.views i ≡ some v → get_elem? s.views j ≡ some w → Contains v.pools.builds id → Contains w.pools.builds other → id.slot ≡ other.slot → i ≡ j

-- where a seat is protected with this epoch, the table's epoch is this one or the next
abbrev pub HoldsBack : {S A R : Type 0} → Meaning S A R → Layout → Type 0
HoldsBack {S} {A} {R} m layout =
    (digest : Key → ℕ) (s : State (Running S) (CellView S A R)) (j pinned epoch : ℕ) (v : CellView S A R) → IsCells m digest layout s → get_elem? s.views j ≡ some v →
    v.epochs.pin ≡ Protected pinned epoch → (epoch ≤ epoch_word s.words) × (epoch_word s.words ≤ epoch + 1)

-- the first epoch is 2, and each time that it was raised is counted by some seat
abbrev pub CountsRaises : {S A R : Type 0} → Meaning S A R → Layout → Type 0
CountsRaises {S} {A} {R} m layout = (digest : Key → ℕ) (s : State (Running S) (CellView S A R)) → IsCells m digest layout s → epoch_word s.words ≡ 2 + all_raises (map reader_view s.views)

-- where one seat owns all reader places, the epoch is 2 and what it raised
abbrev pub SoleRaises : {S A R : Type 0} → Meaning S A R → Layout → Type 0
SoleRaises {S} {A} {R} m layout =
    (digest : Key → ℕ) (s : State (Running S) (CellView S A R)) (j : ℕ) (v : CellView S A R) → IsCells m digest layout s → get_elem? s.views j ≡ some v →
    length v.seats.readers ≡ all_places → epoch_word s.words ≡ 2 + v.epochs.raises
