use Rattle.std.proofs.Common.{◌≡◌, ◌∙◌, ◌&&◌, ◌==◌, Some, None, ap, sym}
use Rattle.std.proofs.lemmas.Result.{on_ok_weaker}
use Rattle.npf_model.specs.Describes.{fits_icmp}
use Rattle.npf_products.specs.Kind.{has_type}
use Rattle.npf_products.specs.Number.{first_value, second_number}
use Rattle.npf_products.proofs.AddsLemmas.{adds_and, adds_then}
use Rattle.npf_products.proofs.KindLemmas.{carried_is, icmp_with, message_with}
use Rattle.npf_products.proofs.rule.add_message.Goals as goal

pub returns-in-None : goal.returns-in-None
returns-in-None c =
    let kind = c.args.kind in
    let asked = c.in-Some.message in
    let is : Some (asked, None) ≡ c.args.asked = cc (c.in-Some.is, c.in-None.is) in
    adds_then kind _ _ _ _ _ _ (c.in_ok-add_test.ensures kind) (c.in_ok-add_number.ensures kind) (λ tables facts ifid dir packet.
    ap (λ b. b && (asked == first_value facts.l4 facts.proto)) (c.has_type.ensures ∙ ap has_type (sym (carried_is kind facts ifid packet)))
    ∙ icmp_with facts.l4 asked facts.proto
    ∙ ap (λ icmp. fits_icmp icmp facts.l4) is)

pub returns-in-Some-code : goal.returns-in-Some-code
returns-in-Some-code c =
    let kind = c.args.kind in
    let asked = c.in-Some.message in
    let code = c.in-Some-code.code in
    let is : Some (asked, Some code) ≡ c.args.asked = cc (c.in-Some.is, c.in-Some-code.is) in
    on_ok_weaker _ (λ adds. adds_then kind _ _ _ _ _ _ (adds_and kind _ _ _ _ _ (c.in_ok-add_test.ensures kind) (c.in_ok-add_number.ensures kind)) (adds kind)
    (λ tables facts ifid dir packet.
    ap (λ b. (b && (asked == first_value facts.l4 facts.proto)) && (code == second_number facts.l4))
    (c.has_type.ensures ∙ ap has_type (sym (carried_is kind facts ifid packet)))
    ∙ message_with facts.l4 asked code facts.proto
    ∙ ap (λ icmp. fits_icmp icmp facts.l4) is)) c.add_number-in-Some-code.ensures
