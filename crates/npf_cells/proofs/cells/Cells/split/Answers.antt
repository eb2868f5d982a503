use Rattle.std.proofs.{Common.{ap, ◌∙◌, ◌-◌, length, arith}, lemmas.List.length-drop}
use Rattle.npf_cells_moves.proofs.MoveLemmas.{splits, gets_born, split_so, giver_on, given_on, given_pass}
use Rattle.npf_cells.proofs.cells.Cells.split.Goals as goal

pub split_seat-seat-requires : goal.split_seat-seat-requires
split_seat-seat-requires g c =
    let own = c.requires.own in (
      own.same,
      omega (arith, own.words),
      splits g.L.Law.meaning g.H.KeyHash.digest c.args.self.now.table.shared.key c.args.pass.now.seat.id c.args.pass.now.seat.me.0 own.lives c.requires.out c.requires.places,
    )

pub load-requires : goal.load-requires
load-requires g c =
    let own = c.requires.own in
    let e = c.split_seat-seat.ensures in
    let d = length-drop (length c.args.pass.now.seat.me.0.seats.readers - 1) c.args.pass.now.seat.me.0.seats.readers in
    let p = c.requires.places in (
      e.3 ∙ own.same,
      omega (arith, own.words),
      gets_born g.L.Law.meaning g.H.KeyHash.digest c.args.self.now.table.shared.key _ _ _ _ _ (ap (λ y. y.0.seats.lives) e.4) (rw e.4 (omega (arith, d, p))),
    )

pub returns-clause-own : goal.returns-clause-own
returns-clause-own g c =
    let e = c.split_seat-seat.ensures in
    giver_on g.L.Law.meaning c.args.self.now.table.shared.key _ _ _ _ c.requires.own _ _ _ c.requires.places e.0 e.2 c.give_last-readers.ensures.left

pub returns-clause-given : goal.returns-clause-given
returns-clause-given g c =
    let e = c.split_seat-seat.ensures in
    given_on g.L.Law.meaning c.args.self.now.table.shared.key _ _ _ c.args.pass.now.seat.me c.requires.own _ _ _ _ _ c.requires.places
    (c.load.ensures.0 ∙ e.3) (rw e.4 at c.load.ensures.2) c.give_last-readers.ensures.given

pub returns-clause-splits : goal.returns-clause-splits
returns-clause-splits g c =
    let e = c.split_seat-seat.ensures in
    rw e.2 (split_so g.L.Law.meaning _ c.args.pass.now.seat.me.0 _ _ c.requires.out c.requires.places (rw e.4 at c.load.ensures.2))

pub returns-clause-given_legal : goal.returns-clause-given_legal
returns-clause-given_legal g c =
    let e = c.split_seat-seat.ensures in
    given_pass g.L.Law.meaning _ c.args.pass.now.seat.me.0 _ _ c.requires.places (rw e.4 at c.load.ensures.2)

pub returns-clause-idle : goal.returns-clause-idle
returns-clause-idle g c = ap (λ y. y.0.epochs.pin) c.split_seat-seat.ensures.2 ∙ c.requires.out

pub returns-clause-given_idle : goal.returns-clause-given_idle
returns-clause-given_idle g c =
    let e = c.split_seat-seat.ensures in
    ap (λ y. y.0.epochs.pin) c.load.ensures.2.is ∙ ap (λ y. y.0.epochs.pin) e.4
