-- Connections that a pass has just begun to build.
use Rattle.std.specs.Prelude.{◌≡◌, ◌≢◌, ℕ, [], ◌∷◌, Some, Contains}
use Rattle.atomic_table.specs.Table.{Me}
use Rattle.npf_types.specs.declared.key.Way.{Way}
use Rattle.npf_core.specs.declared.conn_id.ConnId.{ConnId}
use Rattle.npf_core.specs.History.{state_of}
use Rattle.npf_core.specs.Machine.{HoldsNone}
use Rattle.npf_core.specs.Meaning.{Meaning}
use Rattle.npf_connections.specs.Adding.{AddsOwn}
use Rattle.npf_connections.specs.Entries.{claim_entries}
use Rattle.npf_connections.specs.Pass.{IsPass}
use Rattle.npf_cells_words.specs.Layout.{note_field}
use Rattle.npf_cells_lives.specs.declared.pools.Note.{Note}
use Rattle.npf_cells_rule.specs.declared.view.CellView.{CellView}
use Rattle.npf_cells_rule.specs.Passes.{cell_pass}

-- the pass has seen this history, is building the connection, which it was answered, and has stored in its slot
abbrev pub having_begun : {S A R : Type 0} → CellView S A R → ConnId → CellView S A R → CellView S A R
having_begun v id now = record v {
  seats = record v.seats { history = now.seats.history };
  pools = record v.pools { found = now.pools.found; builds = id ∷ v.pools.builds; unstored = now.pools.unstored; stored = now.pools.stored; notes = now.pools.notes };
  trie = record v.trie { answered = id ∷ v.trie.answered };
}

-- the claim of the connection's slot for this packet is the pass's one new entry, and ends its history; the connection holds no key; and the
-- pass owes no incarnation that it didn't owe, has stored 0 as the connection's notes, and knows those of other slots that it knew
pub record IsBegun {S A R F : Type 0} (m : Meaning S A R) (n : ℕ) (id : ConnId) (old now : Me F (CellView S A R)) : Type 0 where
  pub adds : AddsOwn (cell_pass old.0) now.0.seats.history (claim_entries (cell_pass old.0) n (Some id))
  pub legal : IsPass m (cell_pass now.0)
  pub bare : (way : Way) → HoldsNone (state_of m now.0.seats.history) id way
  pub is : now ≡ (having_begun old.0 id now.0, old.1)
  pub owes : old.0.pools.unstored ≡ [] → now.0.pools.unstored ≡ []
  pub noted : (way : Way) → Contains now.0.pools.notes (record { slot = id.slot; field = note_field way; value = 0 })
  pub known : (note : Note) → note.slot ≢ id.slot → Contains old.0.pools.notes note → Contains now.0.pools.notes note

-- the pass is building a connection in the slot that holds no key of that way
pub record BuildsBare {S A R : Type 0} (m : Meaning S A R) (v : CellView S A R) (slot : ℕ) (way : Way) : Type 0 where
  pub id : ConnId
  pub built : Contains v.pools.builds id
  pub there : id.slot ≡ slot
  pub bare : HoldsNone (state_of m v.seats.history) id way
