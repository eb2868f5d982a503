-- The part of the rule on what killers know: a pass has seen the deaths of its kills, and holds for held of their keys what is.
use Rattle.std.specs.Prelude.{◌≡◌, ℕ, List, Contains}
use mathlib.Core.Option.{some}
use lib.ListN.{get_elem?}
use Rattle.npf_types.specs.declared.key.Key.{Key}
use Rattle.npf_types.specs.declared.key.Way.{Way}
use Rattle.npf_core.specs.declared.conn_id.ConnId.{ConnId}
use Rattle.npf_core.specs.declared.stage.Stage.TheVariants.{Dead}
use Rattle.npf_core.specs.Machine.{Machine, stage_of, Holds}
use Rattle.npf_cells_lives.specs.declared.pools.PoolSide.{PoolSide}

-- what a pass has seen of a connection that it killed: it is Dead, and holds the same keys as it really does
pub record FitsKnown {S : Type 0} (seen k : Machine S) (id : ConnId) : Type 0 where
  pub dead : stage_of seen id ≡ Dead
  pub held : (way : Way) (key : Key) → Holds seen id way key → Holds k id way key
  pub back : (way : Way) (key : Key) → Holds k id way key → Holds seen id way key

-- over views of which each has seen a state of the connections, and has a side
abbrev pub Known : {S V : Type 0} → (V → Machine S) → (V → PoolSide) → Machine S → List V → Type 0
Known {S} {V} seen_of side_of k views = (j : ℕ) (v : V) (id : ConnId) → get_elem? views j ≡ some v → Contains (side_of v).kills id → FitsKnown (seen_of v) k id
