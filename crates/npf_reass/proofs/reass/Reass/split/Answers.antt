use Rattle.std.proofs.{Common.{ap, ◌∙◌, ◌-◌, length, arith}, lemmas.List.length-drop}
use Rattle.npf_reass.proofs.{MoveLemmas.{gets_born, split_so, splits}, PassLemmas.{given_rests, giver_rests, seat_on}}
use Rattle.npf_reass.proofs.reass.Reass.split.Goals as goal

pub split_seat-seat-requires : goal.split_seat-seat-requires
split_seat-seat-requires c =
    let of = c.requires.own.of in
    let rests = c.requires.own.rests in
    (of.same, omega (arith, of.words, of.some_class), splits c.args.self.now.table.shared.key c.args.pass.now.seat.id c.args.pass.now.seat.me.0 rests.lives rests.turn c.requires.places)

pub load-requires : goal.load-requires
load-requires c =
    let of = c.requires.own.of in
    let e = c.split_seat-seat.ensures in
    let d = length-drop (length c.args.pass.now.seat.me.0.seats.readers - 1) c.args.pass.now.seat.me.0.seats.readers in
    let p = c.requires.places in (
      e.3 ∙ of.same,
      omega (arith, of.words, of.some_class),
      gets_born c.args.self.now.table.shared.key _ _ _ _ _ (ap (λ y. y.0.seats.lives) e.4) (ap (λ y. y.0.turn) e.4) (rw e.4 (omega (arith, d, p))),
    )

pub returns-clause-own : goal.returns-clause-own
returns-clause-own c =
    let e = c.split_seat-seat.ensures in
    record { of = seat_on _ e.0 c.requires.own.of; rests = giver_rests _ c.args.pass.now.seat.me c.requires.own.rests _ c.requires.places e.2 }

pub returns-clause-given : goal.returns-clause-given
returns-clause-given c =
    let e = c.split_seat-seat.ensures in
    record { of = seat_on _ (c.load.ensures.0 ∙ e.3) c.requires.own.of; rests = given_rests _ c.args.pass.now.seat.me c.requires.own.rests _ _ _ c.requires.places (rw e.4 at c.load.ensures.2) }

pub returns-clause-splits : goal.returns-clause-splits
returns-clause-splits c =
    let e = c.split_seat-seat.ensures in
    rw e.2 (split_so _ c.args.pass.now.seat.me.0 _ _ c.requires.places (rw e.4 at c.load.ensures.2))
