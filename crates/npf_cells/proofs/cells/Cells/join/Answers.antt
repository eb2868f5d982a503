use Rattle.std.proofs.Common.{◌++◌, ◌≤◌, ap, sym, ◌∙◌, length, length-append, arith}
use Rattle.npf_connections.specs.Pass.{all_places}
use Rattle.npf_cells_moves.proofs.MoveLemmas.{joins, reads, joined_so, joined_pass, joined_on}
use Rattle.npf_cells_rule.proofs.PassLemmas.{turnless_free}
use Rattle.npf_cells.proofs.cells.Cells.join.Goals as goal

pub join_seat-requires : goal.join_seat-requires
join_seat-requires g c =
    let own = c.requires.own in
    let other = c.requires.other_own in (
      own.same,
      other.same,
      turnless_free c.requires.other_turn other.carries,
      omega (arith, own.words),
      joins g.L.Law.meaning g.H.KeyHash.digest c.args.self.now.table.shared.key _ c.args.pass.now.seat.me.0 _ c.args.other.seat.me.0 own.lives own.theirs
          c.requires.out own.place other.lives other.theirs c.requires.other_out c.requires.other_nodes c.requires.other_done c.requires.other_kills c.requires.other_reclaims c.requires.other_cleared
          (other.unlocked c.requires.other_out) c.requires.other_turn,
    )

pub load-pass-requires : goal.load-pass-requires
load-pass-requires g c =
    let own = c.requires.own in
    let e = c.join_seat.ensures in
    let has = length-append c.args.pass.now.seat.me.0.seats.readers c.args.other.seat.me.0.seats.readers in
    let place = own.place in (
      e.0 ∙ own.same,
      omega (arith, own.words),
      reads g.L.Law.meaning g.H.KeyHash.digest c.args.self.now.table.shared.key _ _ _ _ _ (ap (λ y. y.0.seats.lives) e.2 ∙ own.lives) (rw e.2 (omega (arith, has, place))),
    )

pub add_all-requires : goal.add_all-requires
add_all-requires g c =
    let e = c.join_seat.ensures in
    let most : length (c.args.pass.now.seat.me.0.seats.readers ++ c.args.other.seat.me.0.seats.readers) ≤ all_places = rw e.2 at c.load-pass.ensures.2.most in
    let has = length-append c.args.pass.now.seat.me.0.seats.readers c.args.other.seat.me.0.seats.readers in
    let a = ap length c.requires.own.owns in
    let b = ap length c.requires.other_own.owns in
    omega (arith, most, has, a, b)

pub returns-clause-own : goal.returns-clause-own
returns-clause-own g c =
    let e = c.join_seat.ensures in
    joined_on g.L.Law.meaning c.args.self.now.table.shared.key _ _ c.args.pass.now.readers.items c.args.pass.now.seat.me c.requires.own c.args.other.seat.me.0 _ _ _ _ _
    (c.load-pass.ensures.0 ∙ e.0) (rw e.2 at c.load-pass.ensures.2) (c.add_all.ensures ∙ ap (λ xs. c.args.pass.now.readers.items ++ xs) c.requires.other_own.owns)

pub returns-clause-joins : goal.returns-clause-joins
returns-clause-joins g c =
    joined_so g.L.Law.meaning _ c.args.pass.now.seat.me.0 c.args.other.seat.me.0 _ _ _ (rw c.join_seat.ensures.2 at c.load-pass.ensures.2) (c.requires.other_own.sized ∙ sym c.requires.own.sized)

pub returns-clause-legal : goal.returns-clause-legal
returns-clause-legal g c =
    joined_pass g.L.Law.meaning _ c.args.pass.now.seat.me.0 c.args.other.seat.me.0 _ _ _ (rw c.join_seat.ensures.2 at c.load-pass.ensures.2) c.requires.done (c.requires.own.unanswered c.requires.out)

pub returns-clause-idle : goal.returns-clause-idle
returns-clause-idle g c = ap (λ y. y.0.epochs.pin) c.load-pass.ensures.2.is ∙ (ap (λ y. y.0.epochs.pin) c.join_seat.ensures.2 ∙ c.requires.out)
