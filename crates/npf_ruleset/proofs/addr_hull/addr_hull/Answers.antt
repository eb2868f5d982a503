use Rattle.std.proofs.Common.{◌≡◌, Bool, true, false, Option, List, Some, subst, sym, ap, ◌∙◌}
use Rattle.npf_model.specs.{declared.ends.AddrItem.AddrItem, Describes.fits_addrs}
use Rattle.npf_ruleset.proofs.addr_hull.addr_hull.Goals as goal

pub returns-in-Some : goal.returns-in-Some
returns-in-Some c = λ tables addr fits.
    c.items_hull.ensures tables addr
    (subst (λ (b : Bool). fits_addrs b (Some c.as_slice.result.now) tables addr ≡ true) c.if-not-ends.true
    (subst (λ (addrs : Option (List AddrItem)). fits_addrs c.args.ends.now.excluded addrs tables addr ≡ true)
    (c.in-Some.is ∙ ap (λ (items : List AddrItem). Some items) (sym c.as_slice.ensures)) fits))
