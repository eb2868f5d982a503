use Rattle.std.proofs.Common.{◌≡◌, ◌∙◌, Some, None, ap, sym}
use Rattle.std.proofs.lemmas.Result.{on_ok_weaker}
use Rattle.npf_model.specs.MapOf.{fits_map_protocol}
use Rattle.npf_products.specs.Kind.{kind_protocol}
use Rattle.npf_products.proofs.AddsLemmas.{adds_as}
use Rattle.npf_products.proofs.AgreeLemmas.{map_known, map_unknown}
use Rattle.npf_products.proofs.map.add_protocol.Goals as goal

pub returns-in-Some-protocol : goal.returns-in-Some-protocol
returns-in-Some-protocol c =
    let kind = c.args.kind in
    let known : kind_protocol kind.family kind.carried ≡ Some c.in-Some-protocol.protocol = sym c.protocol.ensures ∙ c.in-Some-protocol.is in
    on_ok_weaker _ (λ adds. adds_as kind _ _ _ _ (adds kind) (λ tables facts ifid dir packet.
    map_known kind c.in-Some.asked c.in-Some-protocol.protocol known tables facts ifid dir packet
    ∙ ap (λ asked. fits_map_protocol asked facts.proto) (sym c.in-Some.is))) c.add_test.ensures

pub returns-in-None : goal.returns-in-None
returns-in-None c =
    let kind = c.args.kind in
    let unknown : kind_protocol kind.family kind.carried ≡ None = sym c.protocol.ensures ∙ c.in-None.is in
    on_ok_weaker _ (λ adds. adds_as kind _ _ _ _ (adds kind) (λ tables facts ifid dir packet.
    map_unknown kind c.in-Some.asked unknown tables facts ifid dir packet
    ∙ ap (λ asked. fits_map_protocol asked facts.proto) (sym c.in-Some.is))) c.add_number.ensures
