-- That each of these steps keeps the rule, and tells what it says, whatever else passes do.
use Rattle.std.specs.Int.{bit_not, w64}
use Rattle.std.specs.List.{Contains}
use Rattle.std.specs.Prelude.{[], bit_and, bit_or, length, true, ℕ, ◌%◌, ◌*◌, ◌+◌, ◌<◌, ◌^◌, ◌≡◌, ◌≤◌}
use Rattle.atomic_table.specs.Table.{Allows, Me, Step}
use Rattle.npf_types.specs.declared.key.Key.{Key}
use Rattle.npf_types.specs.declared.key.Way.{Way}
use Rattle.npf_core.specs.declared.conn_id.ConnId.{ConnId}
use Rattle.npf_core.specs.Meaning.{Meaning}
use Rattle.npf_cells_words.specs.declared.layout.Layout.{Layout}
use Rattle.npf_cells_words.specs.declared.layout.Pool.{Pool}
use Rattle.npf_cells_words.specs.declared.layout.Pool.TheVariants.{Nodes, Slots}
use Rattle.npf_cells_words.specs.Layout.{field_at, field_count, inc_field, notes_field, place_word, pool_at, pool_places, note_field}
use Rattle.npf_cells_rule.specs.declared.view.CellView.{CellView}
use Rattle.npf_cells_rule.specs.Cells.{IsCells}
use Rattle.npf_cells_rule.specs.Passes.{IsProtected}
use Rattle.npf_cells_takes.specs.PoolKinds.{ClaimsNode, GivesNodeBack, Sweeps}
use Rattle.npf_cells_takes.specs.PrivateKinds.{ClearsNote, LoadsInc, MayClear, MayStore, MayStoreAhead, StoresAhead, StoresPrivate}
use Rattle.npf_cells_takes.specs.SlotKinds.{ClaimsSlot, FreesSlot, MayGiveBack}
use Rattle.npf_cells_lives.specs.Turns.{Running}

-- the steps on the pools' words and on a pass's own words keep the rule, and tell what they say
pub record KeepsTakes {S A R : Type 0} (m : Meaning S A R) (digest : Key → ℕ) (layout : Layout) : Type 0 where
  pub sweeps : (st : Step (Running S)) (id n : ℕ) (pool : Pool) (word i : ℕ) (me : Me (Running S) (CellView S A R)) → me.0.seats.lives ≡ true → me.0.seats.theirs ≡ [] → 1 ≤ length me.0.seats.readers → i ≡ pool_at layout pool + word → Allows (IsCells m digest layout) n id me i (λ k. k) (Sweeps m digest layout pool word st me)
  pub claims_node : (st : Step (Running S)) (id n node mask : ℕ) (me : Me (Running S) (CellView S A R)) → me.0.seats.lives ≡ true → 1 ≤ length me.0.seats.readers → node < layout.nodes → mask ≡ 1 * 2 ^ (node % 64) % 2 ^ 64 → Allows (IsCells m digest layout) n id me (place_word layout Nodes node) (λ k. bit_or k mask) (ClaimsNode m digest layout node st me)
  pub returns_node : (st : Step (Running S)) (id n node mask : ℕ) (me : Me (Running S) (CellView S A R)) → me.0.seats.lives ≡ true → 1 ≤ length me.0.seats.readers → node < layout.nodes → Contains me.0.pools.nodes node → mask ≡ bit_not w64 (1 * 2 ^ (node % 64) % 2 ^ 64) → Allows (IsCells m digest layout) n id me (place_word layout Nodes node) (λ k. bit_and k mask) (GivesNodeBack m digest layout node st me)
  pub claims_slot : (st : Step (Running S)) (id n packet slot mask : ℕ) (me : Me (Running S) (CellView S A R)) → me.0.seats.lives ≡ true → me.0.seats.theirs ≡ [] → 1 ≤ length me.0.seats.readers → IsProtected me.0.epochs.pin → slot < layout.slots → mask ≡ 1 * 2 ^ (slot % 64) % 2 ^ 64 → Allows (IsCells m digest layout) n id me (place_word layout Slots slot) (λ k. bit_or k mask) (ClaimsSlot m digest layout packet slot st me)
  pub loads_inc : (st : Step (Running S)) (id n slot : ℕ) (me : Me (Running S) (CellView S A R)) → slot < layout.slots → Allows (IsCells m digest layout) n id me (field_at layout Slots slot inc_field) (λ k. k) (LoadsInc slot st me)
  pub stores : (st : Step (Running S)) (id n : ℕ) (pool : Pool) (place field value : ℕ) (me : Me (Running S) (CellView S A R)) → me.0.seats.lives ≡ true → 1 ≤ length me.0.seats.readers → place < pool_places layout pool → field < field_count pool → MayStore m me.0 pool place field value → Allows (IsCells m digest layout) n id me (field_at layout pool place field) (λ _. value) (λ _. StoresPrivate m digest layout pool place field st me value)
  pub stores_ahead : (st : Step (Running S)) (id n slot : ℕ) (way : Way) (value : ℕ) (me : Me (Running S) (CellView S A R)) → 1 ≤ length me.0.seats.readers → slot < layout.slots → MayStoreAhead me.0 slot way value → Allows (IsCells m digest layout) n id me (field_at layout Slots slot (note_field way)) (λ _. value) (λ _. StoresAhead way st me value)
  pub clears : (st : Step (Running S)) (id n : ℕ) (conn : ConnId) (me : Me (Running S) (CellView S A R)) → 1 ≤ length me.0.seats.readers → conn.slot < layout.slots → MayClear me.0 conn → Allows (IsCells m digest layout) n id me (field_at layout Slots conn.slot notes_field) (λ _. 0) (λ _. ClearsNote conn st me 0)
  pub frees_slot : (st : Step (Running S)) (id n mask : ℕ) (conn : ConnId) (me : Me (Running S) (CellView S A R)) → me.0.seats.lives ≡ true → me.0.seats.theirs ≡ [] → 1 ≤ length me.0.seats.readers → conn.slot < layout.slots → MayGiveBack me.0 conn → mask ≡ bit_not w64 (1 * 2 ^ (conn.slot % 64) % 2 ^ 64) → Allows (IsCells m digest layout) n id me (place_word layout Slots conn.slot) (λ k. bit_and k mask) (FreesSlot m digest layout conn st me)
