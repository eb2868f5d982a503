-- What the steps on the pools change in the pass's own view, and what each tells.
use Rattle.std.specs.Int.{bit_at}
use Rattle.std.specs.Prelude.{◌≡◌, ℕ, ◌+◌, ◌-◌, ◌^◌, ◌%◌, ◌<◌, ◌==◌, Some, [], ◌∷◌, length, if◌then◌else◌}
use Rattle.atomic_table.specs.Table.{Me, Step}
use Rattle.npf_types.specs.declared.key.Key.{Key}
use Rattle.npf_core.specs.Meaning.{Meaning}
use Rattle.npf_paths.specs.Digits.{PartsAt}
use Rattle.npf_cells_words.specs.declared.layout.Layout.{Layout}
use Rattle.npf_cells_words.specs.declared.layout.Pool.{Pool}
use Rattle.npf_cells_words.specs.declared.layout.Pool.TheVariants.{Slots, Nodes}
use Rattle.npf_cells_words.specs.Layout.{pool_at, pool_words, place_word}
use Rattle.npf_seats.specs.Sums.{others_than}
use Rattle.npf_cells_leaves.specs.declared.trie.Meeting.{Meeting}
use Rattle.npf_cells_lives.specs.declared.pools.PoolSide.{PoolSide}
use Rattle.npf_cells_rule.specs.declared.view.CellView.{CellView}
use Rattle.npf_cells_rule.specs.Stood.{StoodSo}
use Rattle.npf_cells_rule.specs.Views.{with_pools}
use Rattle.npf_cells_takes.specs.SlotKinds.{HasSeenSlots}

-- a pass needs a node where its last load of a place, for a key that it is to hold, found the leaf of another key, and it owns fewer
-- nodes than there are levels below that place, down to and with the one at which the two keys part
pub record NeedsNode {S A R : Type 0} (digest : Key → ℕ) (v : CellView S A R) : Type 0 where
  pub meeting : Meeting
  pub met : v.trie.meets ≡ Some meeting
  pub parting : ℕ
  pub parts : PartsAt (digest meeting.key) meeting.key (digest meeting.other) meeting.other parting
  pub few : meeting.level + length v.pools.nodes < parting

-- how long the row of full words is after a load of this word: the first word begins a row anew, any other goes on where it is the next
abbrev pub row_after : ℕ → ℕ → ℕ → ℕ
row_after row word found = if found == 2 ^ 64 - 1 then (if word == 0 then 1 else (if word == row then row + 1 else 0)) else 0

-- a load of a word of the nodes, which have so many: a row that is complete counts as a sweep
abbrev pub sweeping : ℕ → ℕ → PoolSide → ℕ → PoolSide
sweeping count word side found = record side {
  found = found;
  row = row_after side.row word found;
  sweeps = if row_after side.row word found == count then side.sweeps + 1 else side.sweeps;
}

-- a claim of a node: it is the pass's own where its bit was clear
abbrev pub claiming_node : ℕ → PoolSide → ℕ → PoolSide
claiming_node node side found = record side { found = found; nodes = if bit_at found (node % 64) == 0 then node ∷ side.nodes else side.nodes }

-- a node is given back, and what was stored is forgotten
abbrev pub giving_back : ℕ → PoolSide → ℕ → PoolSide
giving_back node side found = record side { found = found; nodes = others_than node side.nodes; stored = [] }

-- the kinds, as what they tell
pub record Sweeps {S A R F : Type 0} (m : Meaning S A R) (digest : Key → ℕ) (layout : Layout) (pool : Pool) (word : ℕ) (step : Step F) (me : Me F (CellView S A R)) (found : ℕ) (next : Me F (CellView S A R)) : Type 0 where
  pub nodes : pool ≡ Nodes → next ≡ with_pools me (sweeping (pool_words layout.nodes) word me.0.pools found)
  pub slots : pool ≡ Slots → HasSeenSlots m layout word found me next
  pub stood : StoodSo m digest layout me.0 (pool_at layout pool + word) found

pub record ClaimsNode {S A R F : Type 0} (m : Meaning S A R) (digest : Key → ℕ) (layout : Layout) (node : ℕ) (step : Step F) (me : Me F (CellView S A R)) (found : ℕ) (next : Me F (CellView S A R)) : Type 0 where
  pub is : next ≡ with_pools me (claiming_node node me.0.pools found)
  pub stood : StoodSo m digest layout me.0 (place_word layout Nodes node) found

pub record GivesNodeBack {S A R F : Type 0} (m : Meaning S A R) (digest : Key → ℕ) (layout : Layout) (node : ℕ) (step : Step F) (me : Me F (CellView S A R)) (found : ℕ) (next : Me F (CellView S A R)) : Type 0 where
  pub is : next ≡ with_pools me (giving_back node me.0.pools found)
  pub stood : StoodSo m digest layout me.0 (place_word layout Nodes node) found
