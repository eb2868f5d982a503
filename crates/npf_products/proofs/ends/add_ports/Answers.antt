use Rattle.std.proofs.Common.{◌&&◌, ◌∙◌, ap}
use Rattle.npf_products.specs.Adds.{lies_in}
use Rattle.npf_products.specs.End.{port_dimension}
use Rattle.npf_products.specs.Kind.{has_port_numbers}
use Rattle.npf_products.proofs.AddsLemmas.{adds_then}
use Rattle.npf_products.proofs.AgreeLemmas.{ports_agree}
use Rattle.npf_products.proofs.ends.add_ports.Goals as goal

pub returns : goal.returns
returns c =
    let kind = c.args.kind in
    let ranges = c.in_ok-port_ranges.field-0.items in
    adds_then kind _ _ _ _ _ _ (c.in_ok-add_test.ensures kind) (c.in_ok-add_ranges.ensures kind) (λ tables facts ifid dir packet.
    ap (λ b. b && lies_in c.port.result ranges tables facts ifid dir) c.has_port_numbers.ensures
    ∙ ap (λ dimension. has_port_numbers kind.carried && lies_in dimension ranges tables facts ifid dir) c.port.ensures
    ∙ ap (λ numbers. has_port_numbers kind.carried && lies_in (port_dimension c.args.end) numbers tables facts ifid dir) c.in_ok-port_ranges.ensures
    ∙ ports_agree kind c.args.end c.args.ports.now tables facts ifid dir packet)
