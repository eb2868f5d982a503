use Rattle.std.proofs.Common.{refl}
use Rattle.npf_model.specs.MapOf.{fits_filter, fits_map_protocol, fits_segment}
use Rattle.npf_model.specs.Place.{is_on}
use Rattle.npf_products.specs.End.{own_tables}
use Rattle.npf_products.proofs.AddsLemmas.{adds_and, adds_as}
use Rattle.npf_products.proofs.AgreeLemmas.{map_together}
use Rattle.npf_products.proofs.map.add_map.Goals as goal

pub returns : goal.returns
returns c =
    let kind = c.args.kind in
    let map = c.args.map.now in
    adds_as kind _ _ _ _
    (adds_and kind _ _ _ _ _
    (adds_and kind _ _ _ _ _
    (adds_and kind _ _ _ _ _ (adds_and kind _ _ _ _ _ (c.in_ok-add_direction.ensures kind) (c.in_ok-add_on.ensures kind map.on refl)) c.in_ok-add_protocol.ensures)
    c.in_ok-add_filter.ensures)
    c.in_ok-add_segment.ensures)
    (λ tables facts ifid dir packet.
    map_together c.args.dir dir (is_on map.on ifid) (fits_map_protocol map.proto facts.proto) (fits_filter map.filter (own_tables c.args.tables tables) facts)
    (fits_segment map facts))
