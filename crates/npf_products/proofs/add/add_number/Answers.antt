use Rattle.std.proofs.Common.{◌∙◌, ◌||◌, false, ap, get_or, refl}
use Rattle.npf_boxes.proofs.CellLemmas.{or_none}
use Rattle.npf_model.specs.Describes.{in_range}
use Rattle.npf_products.specs.Number.{numbers_of}
use Rattle.npf_products.proofs.AddsLemmas.{adds_as}
use Rattle.npf_products.proofs.RangeLemmas.{single}
use Rattle.npf_products.proofs.add.add_number.Goals as goal

pub returns : goal.returns
returns c = λ kind. adds_as kind _ _ _ _ (c.in_ok-add_range.ensures kind)
    (λ tables facts ifid dir packet.
    let n = get_or (numbers_of facts ifid dir) c.args.dimension 0 in
    ap (λ low. in_range n (low, c.from-2.result) || false) c.from.ensures
    ∙ ap (λ high. in_range n (c.args.number, high) || false) c.from-2.ensures
    ∙ or_none (in_range n (c.args.number, c.args.number)) false refl ∙ single c.args.number n)
