-- What a claim of a slot, and a slot that is given back, change in the pass's own view, and what they tell.
use Rattle.std.specs.Int.{bit_at}
use Rattle.std.specs.Prelude.{◌≡◌, ◌≢◌, ℕ, ◌-◌, ◌^◌, ◌%◌, ◌/◌, ◌<◌, List, [], ◌∷◌, Some, Contains}
use Rattle.atomic_table.specs.Table.{Me, Step}
use Rattle.npf_types.specs.declared.key.Key.{Key}
use Rattle.npf_core.specs.declared.conn_id.ConnId.{ConnId}
use Rattle.npf_core.specs.declared.entry.Entry.{Entry}
use Rattle.npf_core.specs.History.{state_of}
use Rattle.npf_core.specs.Meaning.{Meaning}
use Rattle.npf_connections.specs.Adding.{Adds, AddsOwn}
use Rattle.npf_connections.specs.Entries.{claim_entries, free_entries}
use Rattle.npf_connections.specs.Pass.{IsPass}
use Rattle.npf_cells_words.specs.declared.layout.Layout.{Layout}
use Rattle.npf_cells_words.specs.declared.layout.Pool.TheVariants.{Slots}
use Rattle.npf_cells_words.specs.Layout.{place_word}
use Rattle.npf_cells_lives.specs.Deaths.{ids_elsewhere}
use Rattle.npf_cells_lives.specs.Pools.{claim_bit}
use Rattle.npf_cells_rule.specs.declared.view.CellView.{CellView}
use Rattle.npf_cells_rule.specs.Passes.{cell_pass}
use Rattle.npf_cells_rule.specs.Stood.{StoodSo}

-- the pass after a claim that won: it has seen this history, is building this connection, which it was answered, and still has to store its incarnation
abbrev pub claiming_slot : {S A R : Type 0} → CellView S A R → ℕ → List (Entry S A R) → ConnId → CellView S A R
claiming_slot v found history id = record v {
  seats = record v.seats { history = history };
  pools = record v.pools { found = found; builds = id ∷ v.pools.builds; unstored = id.slot ∷ v.pools.unstored };
  trie = record v.trie { answered = id ∷ v.trie.answered };
}

-- the pass after a load of a word of the slots, or a claim that lost: it has seen this history
abbrev pub seeing_slots : {S A R : Type 0} → CellView S A R → ℕ → List (Entry S A R) → CellView S A R
seeing_slots v found history = record v { seats = record v.seats { history = history }; pools = record v.pools { found = found } }

-- the pass claimed the slot for this packet: its claim ends its history, so the connection is the slot's next one, and it is among
-- those that the pass is building
pub record HasClaimed {S A R F : Type 0} (m : Meaning S A R) (n slot : ℕ) (old now : Me F (CellView S A R)) : Type 0 where
  pub id : ConnId
  pub slot_is : id.slot ≡ slot
  pub adds : AddsOwn (cell_pass old.0) now.0.seats.history (claim_entries (cell_pass old.0) n (Some id))
  pub legal : IsPass m (cell_pass now.0)
  pub is : now ≡ (claiming_slot old.0 now.0.pools.found now.0.seats.history id, old.1)

-- the pass has seen all of the history, to which it added nothing, and after which the bits of the word are those of the claimed slots
pub record HasSeenSlots {S A R F : Type 0} (m : Meaning S A R) (layout : Layout) (word found : ℕ) (old now : Me F (CellView S A R)) : Type 0 where
  pub adds : Adds (cell_pass old.0) now.0.seats.history []
  pub legal : IsPass m (cell_pass old.0) → IsPass m (cell_pass now.0)
  pub claims : (slot : ℕ) → slot < layout.slots → slot / 64 ≡ word → bit_at found (slot % 64) ≡ claim_bit ((state_of m now.0.seats.history).slot slot).stage
  pub is : now ≡ (seeing_slots old.0 found now.0.seats.history, old.1)

-- the kind, as what it tells
pub record ClaimsSlot {S A R F : Type 0} (m : Meaning S A R) (digest : Key → ℕ) (layout : Layout) (n slot : ℕ) (step : Step F) (me : Me F (CellView S A R)) (found : ℕ) (next : Me F (CellView S A R)) : Type 0 where
  pub finds : next.0.pools.found ≡ found
  pub stood : StoodSo m digest layout me.0 (place_word layout Slots slot) found
  pub won : bit_at found (slot % 64) ≡ 0 → HasClaimed m n slot me next
  pub lost : bit_at found (slot % 64) ≢ 0 → HasSeenSlots m layout (slot / 64) found me next

-- a slot may be given back that the pass reclaimed, whose first note it set to 0 since, and that has a next incarnation
pub record MayGiveBack {S A R : Type 0} (v : CellView S A R) (id : ConnId) : Type 0 where
  pub cleared : Contains v.pools.cleared id
  pub further : id.inc < 2 ^ 64 - 1

-- the pass after it: it has seen this history, and the slot isn't its own any more
abbrev pub freeing : {S A R : Type 0} → CellView S A R → ℕ → List (Entry S A R) → ConnId → CellView S A R
freeing v found history id = record v {
  seats = record v.seats { history = history };
  pools = record v.pools { found = found; cleared = ids_elsewhere id.slot v.pools.cleared };
}

-- the pass freed the connection: this ends its history
pub record HasFreed {S A R F : Type 0} (m : Meaning S A R) (id : ConnId) (found : ℕ) (old now : Me F (CellView S A R)) : Type 0 where
  pub adds : AddsOwn (cell_pass old.0) now.0.seats.history (free_entries (cell_pass old.0) (id ∷ []))
  pub legal : IsPass m (cell_pass old.0) → IsPass m (cell_pass now.0)
  pub is : now ≡ (freeing old.0 found now.0.seats.history id, old.1)

-- the kind, as what it tells
pub record FreesSlot {S A R F : Type 0} (m : Meaning S A R) (digest : Key → ℕ) (layout : Layout) (conn : ConnId) (step : Step F) (me : Me F (CellView S A R)) (found : ℕ) (next : Me F (CellView S A R)) : Type 0 where
  pub freed : HasFreed m conn found me next
  pub stood : StoodSo m digest layout me.0 (place_word layout Slots conn.slot) found
