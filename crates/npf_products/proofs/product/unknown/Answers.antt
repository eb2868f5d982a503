use Rattle.std.proofs.Common.{◌∙◌, refl}
use Rattle.npf_products.specs.Product.{known_protocols}
use Rattle.npf_products.proofs.AddsLemmas.{listed_excluded}
use Rattle.npf_products.proofs.product.unknown.Goals as goal

pub returns : goal.returns
returns c = λ tables numbers.
    listed_excluded tables numbers (known_protocols c.args.family) c.of_vec.result _ (c.of_vec.ensures ∙ c.in_ok-vec.ensures.items) refl c.new.ensures.items refl
    c.in_ok-known_protocols.ensures
