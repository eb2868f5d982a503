-- What the rule says of who owns a node and who builds in a slot.
use Rattle.atomic_table.{proofs.Lists.at_map, specs.Table.State}
use Rattle.std.proofs.{Common.{map, ◌≢◌, ℕ, ◌%◌, ◌<◌, ◌≤◌, slice_index, ⊎_elim, arith}, lemmas.{Bool.cases_eq, Nat.Bits.bit_at-lt}}
use Rattle.npf_types.specs.declared.key.Key.{Key}
use Rattle.npf_core.specs.Meaning.{Meaning}
use Rattle.npf_cells_words.specs.{declared.layout.{Layout.Layout, Pool.TheVariants.Nodes}, Layout.{place_word, epoch_word, reader_word}}
use Rattle.npf_seats.{specs.Sums.occurs, proofs.{ListLemmas.stands_once, SeatLemmas.cases_lt, SumLemmas.two_of_sum}}
use Rattle.npf_cells_pins.proofs.EpochLemmas.{holds_epoch_back}
use Rattle.npf_cells_lives.{specs.{Pools.node_owners, Turns.Running}, proofs.ConnLemmas.builds_apart}
use Rattle.npf_cells_rule.specs.{declared.view.CellView.CellView, Cells.IsCells, TableLaw.{BuildsAlone, OwnsAlone, HoldsBack}, Views.{pool_side, reader_view}}

-- two seats that build in one slot are one
pub builds_alone : {S A R : Type 0} (m : Meaning S A R) (layout : Layout) → BuildsAlone m layout
builds_alone m layout digest s i j v w id other kept at there mine theirs same =
    builds_apart pool_side m layout kept.log s.words s.views i j v w id other kept.connections at there mine theirs same

-- the bit of a node counts its owners
few_owners : {S A R : Type 0} (m : Meaning S A R) (digest : Key → ℕ) (layout : Layout) (s : State (Running S) (CellView S A R)) (node : ℕ) →
    IsCells m digest layout s → node_owners pool_side s.views node ≤ 1
few_owners m digest layout s node kept = ⊎_elim
    (λ (h : node < layout.nodes).
    let bit = kept.pools.bits Nodes node h in
    let below = bit_at-lt (slice_index s.words (place_word layout Nodes node)) (node % 64) in
    omega (arith, bit, below))
    (λ (h : layout.nodes ≤ node). let none = kept.pools.beyond node h in omega (arith, none))
    (cases_lt node layout.nodes)

-- so two seats that own it are one
pub owns_alone : {S A R : Type 0} (m : Meaning S A R) (layout : Layout) → OwnsAlone m layout
owns_alone {S} {A} {R} m layout digest s i j node v w kept at there mine theirs = ⊎_elim
    (λ e. e)
    (λ (ne : i ≢ j).
    let few = few_owners m digest layout s node kept in
    let both = two_of_sum (λ (u : CellView S A R). occurs node u.pools.nodes) s.views i j v w at there ne in
    let one = stands_once node v.pools.nodes mine in
    let another = stands_once node w.pools.nodes theirs in
    absurd (omega (arith, few, both, one, another)))
    (cases_eq i j)

-- the part on epochs says it of each seat
pub holds_back : {S A R : Type 0} (m : Meaning S A R) (layout : Layout) → HoldsBack m layout
holds_back m layout digest s j pinned epoch v kept at is =
    holds_epoch_back (epoch_word s.words) (reader_word s.words) (map reader_view s.views) j pinned epoch (reader_view v) kept.epochs (at_map reader_view s.views j v at) is
