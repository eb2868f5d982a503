use Rattle.std.proofs.Common.{◌+◌, ◌∷◌, [], ◌∙◌, ap, sym}
use Rattle.npf_model.specs.Place.{fits_dir}
use Rattle.npf_products.specs.Condition.{has_number}
use Rattle.npf_products.specs.Number.{place_of}
use Rattle.npf_products.proofs.AddsLemmas.{adds_as}
use Rattle.npf_products.proofs.AgreeLemmas.{direction_agrees}
use Rattle.npf_products.proofs.place.add_direction.Goals as goal

pub returns : goal.returns
returns c = λ kind. adds_as kind _ _ _ _ (c.in_ok-add_range.ensures kind) (λ tables facts ifid dir packet.
    ap (λ first. has_number ((first, first + 65535) ∷ []) (place_of ifid dir)) c.first_place-first.ensures
    ∙ direction_agrees kind c.in-Some.dir tables facts ifid dir packet
    ∙ ap (λ asked. fits_dir asked dir) (sym c.in-Some.is))
