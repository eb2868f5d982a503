use Rattle.std.proofs.Common.{◌≡◌, ◌&&◌, Some, ap, sym}
use Rattle.std.proofs.lemmas.Result.{on_ok_weaker}
use Rattle.npf_model.specs.Describes.{fits_addrs, fits_ports}
use Rattle.npf_products.specs.End.{address_at, port_at, own_tables}
use Rattle.npf_products.proofs.AddsLemmas.{adds_as, adds_then, and_keep}
use Rattle.npf_products.proofs.ends.add_end.Goals as goal

pub returns-in-None : goal.returns-in-None
returns-in-None c =
    let asked = c.args.asked.now in
    adds_as c.args.kind _ _ _ _ c.in_ok-add_addresses.ensures (λ tables facts ifid dir packet.
    sym (and_keep (fits_addrs asked.excluded asked.addrs (own_tables c.args.tables tables) (address_at c.args.end facts)) _
    (ap (λ ports. fits_ports ports (port_at c.args.end facts.l4)) c.in-None.is)))

pub returns-in-Some : goal.returns-in-Some
returns-in-Some c =
    let asked = c.args.asked.now in
    let is : Some c.as_slice.result.now ≡ asked.ports = cc (c.as_slice.ensures) in
    on_ok_weaker _ (λ adds. adds_then c.args.kind _ _ _ _ _ _ c.in_ok-add_addresses.ensures adds (λ tables facts ifid dir packet.
    ap (λ ports. fits_addrs asked.excluded asked.addrs (own_tables c.args.tables tables) (address_at c.args.end facts)
    && fits_ports ports (port_at c.args.end facts.l4)) is)) c.add_ports.ensures
