use Rattle.npf_products.proofs.AddsLemmas.{adds_and}
use Rattle.npf_products.proofs.product.add_placed.Goals as goal

pub returns : goal.returns
returns c =
    let kind = c.args.kind in
    adds_and kind _ _ _ _ _ (adds_and kind _ _ _ _ _ (c.in_ok-add_direction.ensures kind) (c.in_ok-add_interface.ensures kind)) c.in_ok-add_rule.ensures
