use Rattle.std.proofs.Common.{length, ◌∙◌, arith}
use Rattle.npf_compare_maps.proofs.SideLemmas.{maps_within, translated_are}
use Rattle.npf_compare_maps.proofs.side.RankedSide.translated.Goals as goal

pub narrow-requires-clause-known : goal.narrow-requires-clause-known
narrow-requires-clause-known c =
    let within = maps_within c.args.self.now c.args.asked (length c.args.packets.now.products.now) c.requires.side.within in
    omega (arith, c.place_among-place.ensures.first, c.place_among-place.ensures.count, c.maps_from.ensures.from, c.maps.ensures, within)

pub returns-clause-translated : goal.returns-clause-translated
returns-clause-translated c =
    translated_are c.args.self.now c.args.packets.now c.in_ok-left.left c.place_among-place.result c.args.at c.requires.side c.place_among-place.ensures.place
    c.in_ok-left.ensures.narrowed c.args.asked (c.place_among-place.ensures.first ∙ c.maps_from.ensures.from) (c.place_among-place.ensures.count ∙ c.maps.ensures)
