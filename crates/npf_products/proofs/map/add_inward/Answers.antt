use Rattle.std.proofs.Common.{◌&&◌, ap}
use Rattle.npf_model.specs.Describes.{destination_of}
use Rattle.npf_model.specs.MapOf.{fits_side}
use Rattle.npf_products.proofs.AddsLemmas.{adds_then}
use Rattle.npf_products.proofs.map.add_inward.Goals as goal

pub returns : goal.returns
returns c =
    let map = c.args.map.now in
    adds_then c.args.kind _ _ _ _ _ _ (c.in_ok-add_test.ensures c.args.kind) c.in_ok-add_side.ensures (λ tables facts ifid dir packet.
    ap (λ b. b && fits_side map.outside facts.dst (destination_of facts.l4)) c.comes_inside.ensures)
