-- The part of the rule on connections: the history whose state they have, what passes are building, and the incarnations' words.
use Rattle.std.specs.Prelude.{◌≡◌, ℕ, ◌+◌, ◌≤◌, ◌<◌, List, length, Contains, sum_by, slice_index}
use mathlib.Core.Option.{some}
use lib.ListN.{get_elem?}
use Rattle.npf_core.specs.declared.conn_id.ConnId.{ConnId}
use Rattle.npf_core.specs.declared.entry.Entry.{Entry}
use Rattle.npf_core.specs.declared.stage.Stage.TheVariants.{Building}
use Rattle.npf_core.specs.History.{Legal, state_of}
use Rattle.npf_core.specs.Machine.{Machine, stage_of}
use Rattle.npf_core.specs.Meaning.{Meaning}
use Rattle.npf_cells_words.specs.declared.layout.Layout.{Layout}
use Rattle.npf_cells_words.specs.declared.layout.Pool.TheVariants.{Slots}
use Rattle.npf_cells_words.specs.Layout.{inc_field, field_at, word_count}
use Rattle.npf_seats.specs.Sums.{occurs}
use Rattle.npf_cells_lives.specs.declared.pools.PoolSide.{PoolSide}

-- under whose number an entry stands
abbrev pub entry_seat : {S A R : Type 0} → Entry S A R → ℕ
entry_seat entry = entry.seat

-- one of these connections has this slot
pub record IsBuiltIn (builds : List ConnId) (slot : ℕ) : Type 0 where
  pub id : ConnId
  pub built : Contains builds id
  pub there : id.slot ≡ slot

-- what a pass is building is Building under its number, and it still has to store the incarnation of some of these, each once
pub record FitsBuilds {S : Type 0} (k : Machine S) (j : ℕ) (builds : List ConnId) (unstored : List ℕ) : Type 0 where
  pub building : (id : ConnId) → Contains builds id → stage_of k id ≡ Building j
  pub owing : (slot : ℕ) → Contains unstored slot → IsBuiltIn builds slot
  pub once : (slot : ℕ) → occurs slot unstored ≤ 1

-- the word of a slot's incarnation
abbrev pub inc_word : Layout → List ℕ → ℕ → ℕ
inc_word layout words slot = slice_index words (field_at layout Slots slot inc_field)

-- how often the slot stands among those whose incarnation passes still have to store
abbrev pub unstored_by : {V : Type 0} → (V → PoolSide) → List V → ℕ → ℕ
unstored_by side_of views slot = sum_by (λ v. occurs slot (side_of v).unstored) views

-- over views of which each has a side: the connections have the state after a legal history; a slot's word is its last incarnation, and the one before that where it isn't
-- stored yet
pub record Conns {S A R V : Type 0} (side_of : V → PoolSide) (m : Meaning S A R) (layout : Layout) (log : List (Entry S A R)) (words : List ℕ) (views : List V) : Type 0 where
  pub reach : length words ≡ word_count layout
  pub legal : Legal m layout.slots log
  pub each : (j : ℕ) (v : V) → get_elem? views j ≡ some v → FitsBuilds (state_of m log) j (side_of v).builds (side_of v).unstored
  pub incs : (slot : ℕ) → slot < layout.slots → inc_word layout words slot + unstored_by side_of views slot ≡ ((state_of m log).slot slot).inc
