use Rattle.std.proofs.Common.{◌&&◌, ◌∙◌, ap}
use Rattle.npf_products.specs.Adds.{lies_in}
use Rattle.npf_products.proofs.AddsLemmas.{adds_then}
use Rattle.npf_products.proofs.AgreeLemmas.{flags_agree}
use Rattle.npf_products.proofs.rule.add_control.Goals as goal

pub returns : goal.returns
returns c =
    let kind = c.args.kind in
    let bits = c.in_ok-control_bits.field-0.items in
    adds_then kind _ _ _ _ _ _ (c.in_ok-add_test.ensures kind) (c.in_ok-add_ranges.ensures kind) (λ tables facts ifid dir packet.
    ap (λ b. b && lies_in 5 bits tables facts ifid dir) c.has_flags.ensures
    ∙ flags_agree kind bits c.args.wanted c.args.mask c.in_ok-control_bits.ensures tables facts ifid dir packet)
