use Rattle.std.proofs.Common.{refl, arith}
use Rattle.npf_cells_moves.proofs.KeepLemmas.{may_unpin, left_on}
use Rattle.npf_cells.proofs.cells.Cells.unpin.Goals as goal

pub store-requires : goal.store-requires
store-requires g c =
    let own = c.requires.own in
    rw (c.reader_place.ensures, c.deref.ensures.0, own.owns)
    (own.same, omega (arith, own.words, own.reader), may_unpin g.L.Law.meaning g.H.KeyHash.digest c.args.self.now.table.shared.key _ _ _ _ c.args.pass.now.seat.me refl own.place c.requires.unlocked)

pub returns-clause-own : goal.returns-clause-own
returns-clause-own g c = left_on c.args.self.now.table.shared.key _ _ _ _ _ _ c.requires.own c.store.ensures.0 c.store.ensures.2.is c.requires.unlocked

pub returns-clause-next : goal.returns-clause-next
returns-clause-next g c = c.store.ensures.2.is
