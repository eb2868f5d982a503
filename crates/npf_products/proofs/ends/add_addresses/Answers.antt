use Rattle.std.proofs.Common.{◌≡◌, ◌&&◌, ◌∙◌, Some, ap, refl}
use Rattle.npf_model.specs.Describes.{fits_addrs}
use Rattle.npf_products.specs.Condition.{fits, table_ranges}
use Rattle.npf_products.specs.End.{address_at, may_hold, own_tables}
use Rattle.npf_products.specs.Number.{numbers_of}
use Rattle.npf_products.proofs.AddsLemmas.{adds_one, adds_then}
use Rattle.npf_products.proofs.AgreeLemmas.{addresses_agree}
use Rattle.npf_products.proofs.ends.add_addresses.Goals as goal

pub returns : goal.returns
returns c =
    let kind = c.args.kind in
    let asked = c.args.asked.now in
    let items = c.as_slice-items.result.now in
    let condition = c.add_items.new.condition in
    let is : Some items ≡ asked.addrs = cc (c.as_slice-items.ensures) in
    adds_then kind _ _ _ _ _ _ (c.in_ok-add_test.ensures kind) (adds_one kind _ _ condition _ c.in_ok-push.ensures.items (λ tables facts ifid dir packet. refl))
    (λ tables facts ifid dir packet.
    ap (λ b. b && fits (table_ranges kind.family tables) (numbers_of facts ifid dir) condition)
    (c.may_hold.ensures ∙ ap (may_hold asked.excluded items) c.is_inet6_family.ensures)
    ∙ addresses_agree kind c.args.end c.args.tables items _ condition c.in_ok-add_items.ensures c.new.ensures.items c.new-2.ensures.items c.address.ensures
    tables facts ifid dir packet
    ∙ ap (λ addrs. fits_addrs asked.excluded addrs (own_tables c.args.tables tables) (address_at c.args.end facts)) is)
