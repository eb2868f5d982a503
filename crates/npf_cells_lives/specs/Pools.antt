-- The part of the rule on pools: a bit for each place, which says whether it is taken.
use Rattle.std.specs.Prelude.{◌≡◌, ℕ, ◌+◌, ◌*◌, ◌≤◌, ◌<◌, List, [], length, sum_by}
use Rattle.npf_core.specs.declared.stage.Stage.{Stage}
use Rattle.npf_core.specs.declared.stage.Stage.TheVariants.{Vacant, Building, Live, Dead}
use Rattle.npf_core.specs.Machine.{Machine}
use Rattle.npf_cells_words.specs.declared.layout.Layout.{Layout}
use Rattle.npf_cells_words.specs.declared.layout.Pool.{Pool}
use Rattle.npf_cells_words.specs.declared.layout.Pool.TheVariants.{Slots, Nodes}
use Rattle.npf_cells_words.specs.Layout.{pool_places, pool_words, pool_bit, root_at}
use Rattle.npf_seats.specs.Sums.{occurs}
use Rattle.npf_cells_lives.specs.declared.pools.PoolSide.{PoolSide}

-- 1 where the slot is claimed
abbrev pub claim_bit : {S : Type 0} → Stage S → ℕ
claim_bit Vacant = 0
claim_bit (Building seat) = 1
claim_bit (Live flow steps) = 1
claim_bit Dead = 1

-- how often the node stands among those that passes own
abbrev pub node_owners : {V : Type 0} → (V → PoolSide) → List V → ℕ → ℕ
node_owners side_of views node = sum_by (λ v. occurs node (side_of v).nodes) views

-- and among those that passes got back and whose state they haven't freed
abbrev pub unfreed_owners : {V : Type 0} → (V → PoolSide) → List V → ℕ → ℕ
unfreed_owners side_of views node = sum_by (λ v. occurs node (side_of v).unfreed) views

-- a slot is taken where it is claimed, a node where a pass owns it or got it back, or it was published in the trie
abbrev pub taken : {S V : Type 0} → (V → PoolSide) → List ℕ → Machine S → List V → Pool → ℕ → ℕ
taken side_of published k views Slots place = claim_bit (k.slot place).stage
taken side_of published k views Nodes place = node_owners side_of views place + unfreed_owners side_of views place + occurs place published

-- a seat that owns no node and builds nothing
pub record OwnsNothing (side : PoolSide) : Type 0 where
  pub nodes : side.nodes ≡ []
  pub builds : side.builds ≡ []

-- the bit of each place says whether it is taken, the bits past the last place are set, and no pass owns a node past the last
pub record Pools (layout : Layout) (takes : Pool → ℕ → ℕ) (words : List ℕ) : Type 0 where
  pub reach : root_at layout ≤ length words
  pub bits : (pool : Pool) (place : ℕ) → place < pool_places layout pool → pool_bit layout pool words place ≡ takes pool place
  pub past : (pool : Pool) (place : ℕ) → pool_places layout pool ≤ place → place < 64 * pool_words (pool_places layout pool) → pool_bit layout pool words place ≡ 1
  pub beyond : (node : ℕ) → layout.nodes ≤ node → takes Nodes node ≡ 0

-- a pass that owns nothing
abbrev pub empty_handed : PoolSide
empty_handed = record { sweeps = 0; row = 0; found = 0; nodes = []; unfreed = []; builds = []; unstored = []; stored = []; kills = []; gave_up = []; reclaims = []; cleared = []; dated = 0; notes = [] }
