use Rattle.std.proofs.Common.{◌&&◌, ap}
use Rattle.npf_model.specs.Describes.{source_of}
use Rattle.npf_model.specs.MapOf.{fits_side}
use Rattle.npf_products.proofs.AddsLemmas.{adds_then}
use Rattle.npf_products.proofs.map.add_outward.Goals as goal

pub returns : goal.returns
returns c =
    let map = c.args.map.now in
    adds_then c.args.kind _ _ _ _ _ _ (c.in_ok-add_test.ensures c.args.kind) c.in_ok-add_side.ensures (λ tables facts ifid dir packet.
    ap (λ b. b && fits_side map.inside facts.src (source_of facts.l4)) c.goes_outside.ensures)
