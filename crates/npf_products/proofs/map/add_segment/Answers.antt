use Rattle.std.proofs.Common.{ap, sym}
use Rattle.std.proofs.lemmas.Result.{on_ok_weaker}
use Rattle.npf_model.specs.MapOf.{fits_segment}
use Rattle.npf_products.proofs.AddsLemmas.{adds_as}
use Rattle.npf_products.proofs.map.add_segment.Goals as goal

pub returns-in-Out : goal.returns-in-Out
returns-in-Out c = on_ok_weaker _ (λ adds. adds_as c.args.kind _ _ _ _ adds
    (λ tables facts ifid dir packet. ap (fits_segment c.args.map.now facts) (sym c.in-Out.is))) c.add_outward.ensures

pub returns-in-In : goal.returns-in-In
returns-in-In c = on_ok_weaker _ (λ adds. adds_as c.args.kind _ _ _ _ adds
    (λ tables facts ifid dir packet. ap (fits_segment c.args.map.now facts) (sym c.in-In.is))) c.add_inward.ensures
