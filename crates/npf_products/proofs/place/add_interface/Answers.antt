use Rattle.std.proofs.Common.{ap, refl, sym}
use Rattle.npf_model.specs.Place.{fits_on}
use Rattle.npf_products.proofs.AddsLemmas.{adds_as}
use Rattle.npf_products.proofs.place.add_interface.Goals as goal

pub returns : goal.returns
returns c = λ kind. adds_as kind _ _ _ _ (c.in_ok-add_on.ensures kind c.in-Some.on refl)
    (λ tables facts ifid dir packet. ap (λ asked. fits_on asked ifid) (sym c.in-Some.is))
