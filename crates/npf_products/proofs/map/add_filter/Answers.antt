use Rattle.std.proofs.Common.{ap, sym}
use Rattle.npf_model.specs.MapOf.{fits_filter}
use Rattle.npf_products.specs.End.{own_tables}
use Rattle.npf_products.proofs.AddsLemmas.{adds_as}
use Rattle.npf_products.proofs.map.add_filter.Goals as goal

pub returns : goal.returns
returns c = adds_as c.args.kind _ _ _ _ c.in_ok-add_rule.ensures
    (λ tables facts ifid dir packet. ap (λ asked. fits_filter asked (own_tables c.args.tables tables) facts) (sym c.in-Some.is))
