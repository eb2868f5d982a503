use Rattle.std.proofs.Common.{◌∙◌, ap}
use Rattle.npf_model.specs.Describes.{fits_protocol}
use Rattle.npf_products.proofs.AddsLemmas.{adds_and, adds_as}
use Rattle.npf_products.proofs.AgreeLemmas.{family_agrees}
use Rattle.npf_products.proofs.rule.add_rule.Goals as goal

pub returns : goal.returns
returns c =
    let kind = c.args.kind in
    let family = adds_as kind _ _ _ _ (c.in_ok-add_test.ensures kind)
    (λ tables facts ifid dir packet. c.allows.ensures ∙ family_agrees kind c.args.rule.now.v6 tables facts ifid dir packet) in
    let protocols = adds_as kind _ _ _ _ c.in_ok-add_protocols.ensures
    (λ tables facts ifid dir packet. ap (λ protos. fits_protocol protos facts.proto) c.as_slice.ensures) in
    adds_and kind _ _ _ _ _
    (adds_and kind _ _ _ _ _
    (adds_and kind _ _ _ _ _ (adds_and kind _ _ _ _ _ (adds_and kind _ _ _ _ _ family protocols) c.in_ok-add_flags.ensures) c.in_ok-add_message.ensures)
    c.in_ok-add_end.ensures)
    c.in_ok-add_end-2.ensures
