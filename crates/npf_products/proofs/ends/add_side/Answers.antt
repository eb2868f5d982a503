use Rattle.std.proofs.Common.{◌&&◌, ◌++◌, ◌∷◌, [], ◌∙◌, Some, ap, sym}
use Rattle.std.proofs.lemmas.Result.{on_ok_weaker}
use Rattle.npf_types.specs.Prefix.{has_address}
use Rattle.npf_model.specs.Describes.{fits_ports}
use Rattle.npf_model.specs.MapOf.{fits_side_port}
use Rattle.npf_products.specs.Adds.{lies_in}
use Rattle.npf_products.specs.Condition.{prefix_range}
use Rattle.npf_products.specs.End.{address_at, address_dimension, port_at}
use Rattle.npf_products.proofs.AddsLemmas.{adds_as, adds_then, and_keep}
use Rattle.npf_products.proofs.AgreeLemmas.{net_agrees, side_ports}
use Rattle.npf_products.proofs.ends.add_side.Goals as goal

pub returns-in-None : goal.returns-in-None
returns-in-None c =
    let kind = c.args.kind in
    let side = c.args.side.now in
    let ranges = c.add_block.new.ranges.items in
    adds_as kind _ _ _ _ (c.in_ok-add_ranges.ensures kind) (λ tables facts ifid dir packet.
    ap (λ dimension. lies_in dimension ranges tables facts ifid dir) c.address.ensures
    ∙ ap (λ numbers. lies_in (address_dimension c.args.end) numbers tables facts ifid dir)
    (c.in_ok-add_block.ensures ∙ ap (λ before. before ++ prefix_range kind.family side.net) c.new-addresses.ensures.items)
    ∙ net_agrees kind c.args.end side.net tables facts ifid dir packet
    ∙ sym (and_keep (has_address side.net (address_at c.args.end facts)) _ (ap (λ ports. fits_side_port ports (port_at c.args.end facts.l4)) c.in-None.is)))

pub returns-in-Some : goal.returns-in-Some
returns-in-Some c =
    let kind = c.args.kind in
    let side = c.args.side.now in
    let ranges = c.add_block.new.ranges.items in
    on_ok_weaker _ (λ adds. adds_then kind _ _ _ _ _ _ (c.in_ok-add_ranges.ensures kind) adds (λ tables facts ifid dir packet.
    ap (λ b. b && fits_ports (Some (c.in-Some.ports ∷ [])) (port_at c.args.end facts.l4))
    (ap (λ dimension. lies_in dimension ranges tables facts ifid dir) c.address.ensures
    ∙ ap (λ numbers. lies_in (address_dimension c.args.end) numbers tables facts ifid dir)
    (c.in_ok-add_block.ensures ∙ ap (λ before. before ++ prefix_range kind.family side.net) c.new-addresses.ensures.items)
    ∙ net_agrees kind c.args.end side.net tables facts ifid dir packet)
    ∙ ap (λ b. has_address side.net (address_at c.args.end facts) && b)
    (side_ports c.in-Some.ports (port_at c.args.end facts.l4) ∙ ap (λ ports. fits_side_port ports (port_at c.args.end facts.l4)) (sym c.in-Some.is)))) c.add_ports.ensures
