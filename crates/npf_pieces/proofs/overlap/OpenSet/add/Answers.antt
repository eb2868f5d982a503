use Rattle.std.proofs.Common.{refl}
use Rattle.npf_pieces.proofs.OpenSetLemmas.{added}
use Rattle.npf_pieces.proofs.overlap.OpenSet.add.Goals as goal

pub returns-clause-adds : goal.returns-clause-adds
returns-clause-adds c = λ set known free.
    let end = c.end_of-end.ensures in
    let from = c.unit_of.ensures in
    let behind = c.units_below.ensures in
    let same = c.fill.ensures.same in
    added set c.args.arrived.now c.args.self.now known c.requires.taken _ free
    (rw c.or-self.ensures (rw same.begun refl))
    (rw same.covered (rw end refl))
    (rw c.max-self.ensures (rw same.reach (rw end refl)))
    (rw same.ended refl)
    (rw c.max-self-2.ensures (rw same.header (rw c.beginning_header.ensures.value refl)))
    (λ unit h. rw end at (rw behind at (rw from at (c.fill.ensures.fills unit h))))
