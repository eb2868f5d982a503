use Rattle.std.proofs.Common.{◌%◌, refl, ap, arith}
use Rattle.npf_conndb.proofs.SeenLemmas.{seen_more, bit_vacant}
use Rattle.npf_conndb.proofs.vacancy.vacant_slots.Goals as goal

pub returns-clause-sees : goal.returns-clause-sees
returns-clause-sees g c = seen_more g.L.Law.meaning c.args.cells.now.table.shared.key _ _ _ _ (c.load_pool-claimed.ensures.slots refl)

pub returns-clause-vacant : goal.returns-clause-vacant
returns-clause-vacant g c = λ p from below.
    let least = c.min.ensures in
    let room = c.clear_places.ensures.within in
    let slots = ap (λ l. l.slots) c.layout.ensures in
    bit_vacant _ _ ((c.load_pool-claimed.ensures.slots refl).claims p (omega (arith, below, least, slots)) (omega (arith, from, below, least, room)))
    (c.clear_places.ensures.clear (p % 64) (omega (arith, from, below, least, room)) (omega (arith, from, below, least, room)))
