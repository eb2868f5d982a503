use Rattle.npf_pieces.proofs.OpenSetLemmas.{overlaps_known, shares_known}
use Rattle.npf_pieces.proofs.overlap.OpenSet.overlaps.Goals as goal

pub returns : goal.returns
returns c = λ set known.
    let a = c.args.arrived.now in
    let now = c.args.self.now in
    let free = c.requires in
    let end = c.end_of-end.ensures in
    let from = c.unit_of.ensures in
    let behind = c.units_below.ensures in
    let some = rw end at (rw behind at (rw from at c.has_unit-shares.ensures.some)) in
    let none = rw end at (rw behind at (rw from at c.has_unit-shares.ensures.none)) in
    rw c.overlaps_end.ensures (rw end (overlaps_known set a now known free c.has_unit-shares.result (shares_known set a now known free c.has_unit-shares.result some none)))
