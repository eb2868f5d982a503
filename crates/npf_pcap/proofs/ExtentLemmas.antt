-- Extents that stand apart.
use Rattle.std.proofs.Common.{◌≤◌, ◌+◌, ◌++◌, ℕ, List, [], ◌∷◌, arith}
use Rattle.npf_pcap.specs.{declared.extent.Extent.Extent, Extent.StandApart}

-- one more, behind where they end
pub apart_push : (low : ℕ) (extents : List Extent) (high : ℕ) (extent : Extent) → StandApart low extents high → high ≤ extent.at → StandApart low (extents ++ extent ∷ []) (extent.at + extent.len)
apart_push low [] high extent p ahead = (omega (arith, p, ahead), omega arith)
apart_push low (first ∷ extents) high extent p ahead = (p.0, apart_push (first.at + first.len) extents high extent p.1 ahead)
