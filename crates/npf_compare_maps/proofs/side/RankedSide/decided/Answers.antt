use Rattle.std.proofs.Common.{arith}
use Rattle.npf_compare_maps.proofs.SideLemmas.{decided_are}
use Rattle.npf_compare_maps.proofs.side.RankedSide.decided.Goals as goal

pub narrow-requires-clause-known : goal.narrow-requires-clause-known
narrow-requires-clause-known c =
    omega (arith, c.place_among-place.ensures.first, c.place_among-place.ensures.count, c.requires.side.within)

pub returns-clause-decided : goal.returns-clause-decided
returns-clause-decided c =
    decided_are c.args.self.now c.args.packets.now c.in_ok-left.left c.place_among-place.result c.args.at c.requires.side c.place_among-place.ensures.place
    c.in_ok-left.ensures.narrowed c.place_among-place.ensures.first c.place_among-place.ensures.count
