use Rattle.std.proofs.Common.{◌≡◌, Some, ap, sym}
use Rattle.std.proofs.lemmas.Result.{on_ok_weaker}
use Rattle.npf_model.specs.Describes.{fits_flags}
use Rattle.npf_products.proofs.AddsLemmas.{adds_as}
use Rattle.npf_products.proofs.rule.add_flags.Goals as goal

pub returns-in-Some : goal.returns-in-Some
returns-in-Some c =
    let kind = c.args.kind in
    let rule = c.args.rule.now in
    let is : Some (c.in-Some.wanted, c.in-Some.mask) ≡ rule.flags = cc (c.in-Some.is) in
    on_ok_weaker _ (λ adds. adds_as kind _ _ _ _ adds (λ tables facts ifid dir packet.
    ap (λ flags. fits_flags flags rule.decision rule.state facts.l4) is)) c.add_control.ensures

pub returns-in-None : goal.returns-in-None
returns-in-None c =
    let kind = c.args.kind in
    let rule = c.args.rule.now in
    on_ok_weaker _ (λ adds. adds_as kind _ _ _ _ adds (λ tables facts ifid dir packet.
    ap (λ flags. fits_flags flags rule.decision rule.state facts.l4) (sym c.in-None.is))) c.add_opening.ensures
