use Rattle.std.proofs.Common.{◌&&◌}
use Rattle.npf_model.specs.Describes.{describes}
use Rattle.npf_model.specs.Place.{fits_dir, fits_on}
use Rattle.npf_products.specs.End.{own_tables}
use Rattle.npf_products.proofs.AddsLemmas.{adds_and, adds_as}
use Rattle.npf_products.proofs.AgreeLemmas.{entry_together}
use Rattle.npf_products.proofs.product.add_entry.Goals as goal

pub returns : goal.returns
returns c =
    let kind = c.args.kind in
    let entry = c.args.entry.now in
    adds_as kind _ _ _ _
    (adds_and kind _ _ _ _ _
    (adds_and kind _ _ _ _ _
    (adds_and kind _ _ _ _ _ (adds_and kind _ _ _ _ _ (c.in_ok-add_direction.ensures kind) (c.in_ok-add_interface.ensures kind)) (c.in_ok-add_direction-2.ensures kind))
    (c.in_ok-add_interface-2.ensures kind))
    c.in_ok-add_placed.ensures)
    (λ tables facts ifid dir packet.
    entry_together (fits_dir entry.group_dir dir && fits_on entry.group_on ifid) (fits_dir entry.within_dir dir) (fits_on entry.within_on ifid)
    (describes entry.rule.now (own_tables c.args.tables tables) facts ifid dir))
