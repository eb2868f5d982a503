-- The part of the rule on what passes stored in their own places: it still stands there.
use Rattle.std.specs.Prelude.{◌≡◌, ◌≢◌, ℕ, ◌≤◌, ◌<◌, ◌==◌, Bool, true, false, ◌&&◌, not, Option, Some, None, List, [], ◌∷◌, Contains, filter, slice_index, if◌then◌else◌}
use mathlib.Core.Option.{some}
use lib.ListN.{get_elem?}
use Rattle.npf_cells_words.specs.declared.layout.Layout.{Layout}
use Rattle.npf_cells_words.specs.declared.layout.Pool.{Pool}
use Rattle.npf_cells_words.specs.declared.layout.Pool.TheVariants.{Slots, Nodes}
use Rattle.npf_cells_words.specs.Layout.{notes_field, state_field, phase_field, field_at}
use Rattle.npf_cells_lives.specs.declared.pools.PoolSide.{PoolSide}
use Rattle.npf_cells_lives.specs.declared.pools.StoredWord.{StoredWord}
use Rattle.npf_cells_lives.specs.Conns.{IsBuiltIn}

-- the pool is that of the slots
abbrev pub is_slots : Pool → Bool
is_slots Slots = true
is_slots Nodes = false

-- what was stored last in this word
abbrev pub stored_value : Layout → List StoredWord → ℕ → Option ℕ
stored_value layout [] word = None
stored_value layout (s ∷ rest) word = if field_at layout s.pool s.place s.field == word then Some s.value else stored_value layout rest word

-- the word is one of this slot, and what was stored in others
abbrev pub is_of_slot : ℕ → StoredWord → Bool
is_of_slot slot s = is_slots s.pool && (s.place == slot)

abbrev pub stored_but : ℕ → List StoredWord → List StoredWord
stored_but slot = filter (λ s. not (is_of_slot slot s))

-- a word of a place that the pass owns: of a node any but the state, of a connection that it is building any but the turn, the phase and the
-- notes
abbrev pub IsOwnField : Layout → PoolSide → Pool → ℕ → ℕ → Type 0
IsOwnField layout side Slots slot field = IsBuiltIn side.builds slot × (slot < layout.slots) × (1 ≤ field) × (field < notes_field) × (field ≢ phase_field)
IsOwnField layout side Nodes node field = Contains side.nodes node × (node < layout.nodes) × (field < 18) × (field ≢ state_field)

-- what the part says of one seat
pub record FitsStored (layout : Layout) (words : List ℕ) (side : PoolSide) : Type 0 where
  pub own : (s : StoredWord) → Contains side.stored s → IsOwnField layout side s.pool s.place s.field
  pub stands : (word n : ℕ) → stored_value layout side.stored word ≡ Some n → slice_index words word ≡ n

abbrev pub StoredWords : {V : Type 0} → (V → PoolSide) → Layout → List ℕ → List V → Type 0
StoredWords {V} side_of layout words views = (j : ℕ) (v : V) → get_elem? views j ≡ some v → FitsStored layout words (side_of v)
