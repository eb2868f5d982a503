use Rattle.std.proofs.Common.{ap, ◌∙◌, length-append, arith}
use Rattle.npf_reass.proofs.{MoveLemmas.{joined_so, joins, reads}, PassLemmas.{joined_rests, seat_on}}
use Rattle.npf_reass.proofs.reass.Reass.join.Goals as goal

pub join_seat-requires : goal.join_seat-requires
join_seat-requires c =
    let of = c.requires.own.of in
    let mine = c.requires.own.rests in
    let other = c.requires.other.rests in (
      of.same,
      c.requires.other.of.same,
      other.free,
      omega (arith, of.words, of.some_class),
      joins c.args.self.now.table.shared.key _ c.args.pass.now.seat.me.0 _ c.args.other.seat.me.0 mine.lives mine.theirs mine.turn mine.place other.lives other.theirs other.turn,
    )

pub load-requires : goal.load-requires
load-requires c =
    let of = c.requires.own.of in
    let mine = c.requires.own.rests in
    let e = c.join_seat.ensures in
    let has = length-append c.args.pass.now.seat.me.0.seats.readers c.args.other.seat.me.0.seats.readers in
    let place = mine.place in (
      e.0 ∙ of.same,
      omega (arith, of.words, of.some_class),
      reads c.args.self.now.table.shared.key _ _ _ _ _ (ap (λ y. y.0.seats.lives) e.2 ∙ mine.lives) (ap (λ y. y.0.turn) e.2 ∙ mine.turn) (rw e.2 (omega (arith, has, place))),
    )

pub returns-clause-own : goal.returns-clause-own
returns-clause-own c =
    let e = c.join_seat.ensures in
    record { of = seat_on _ (c.load.ensures.0 ∙ e.0) c.requires.own.of; rests = joined_rests _ c.args.pass.now.seat.me c.requires.own.rests c.args.other.seat.me.0 _ _ _ (rw e.2 at c.load.ensures.2) }

pub returns-clause-joins : goal.returns-clause-joins
returns-clause-joins c = joined_so _ c.args.pass.now.seat.me.0 c.args.other.seat.me.0 _ _ _ (rw c.join_seat.ensures.2 at c.load.ensures.2)
