use Rattle.std.proofs.Common.{ap, ◌∙◌, arith, rules}
use Rattle.npf_oneturn.proofs.SplitLemmas.{splits, gets_number, giver_pass, giver_rests, given_rests, given_pass, one_given, split_so}
use Rattle.npf_oneturn.proofs.one_turn.OneTurnConnections.split.Goals as goal

pub split_seat-seat-requires : goal.split_seat-seat-requires
split_seat-seat-requires g c =
    let of = c.requires.out.own.0 in
    let r = c.requires.out.own.1 in
    (of.same, omega (arith, of.words), splits g.L.Law.meaning _ _ _ r.lives r.turn c.requires.places)

pub load-requires : goal.load-requires
load-requires g c =
    let of = c.requires.out.own.0 in
    let e = c.split_seat-seat.ensures in
    let one = one_given c.args.pass.now.seat.me.0 c.requires.places in (
      e.3 ∙ of.same,
      omega (arith, of.words),
      gets_number g.L.Law.meaning _ _ _ _ _ (ap (λ y. y.0.seats.lives) e.4) (ap (λ y. y.0.turn) e.4) (rw e.4 (omega (arith, one))) (ap (λ y. y.0.entered) e.4),
    )

pub returns-clause-out : goal.returns-clause-out
returns-clause-out g c =
    let e = c.split_seat-seat.ensures in
    let r = c.requires.out.own.1 in
    record {
      own = (search rules, rw e.2 (giver_rests c.args.pass.now.seat.me c.requires.places r), search rules);
      legal = rw e.2 (giver_pass g.L.Law.meaning c.args.pass.now.seat.me.0 c.requires.places r.most c.requires.out.legal);
      out = search rules;
    }

pub returns-clause-given : goal.returns-clause-given
returns-clause-given g c =
    let e = c.split_seat-seat.ensures in
    let gets = rw e.4 at c.load.ensures.2 in
    record {
      own = (search rules, given_rests g.L.Law.meaning _ c.args.pass.now.seat.me.0 _ _ c.requires.places gets, search rules);
      legal = given_pass g.L.Law.meaning _ c.args.pass.now.seat.me.0 _ _ c.requires.places gets;
      out = search rules;
    }

pub returns-clause-splits : goal.returns-clause-splits
returns-clause-splits g c =
    let e = c.split_seat-seat.ensures in
    rw e.2 (split_so g.L.Law.meaning _ c.args.pass.now.seat.me.0 _ _ c.requires.places (rw e.4 at c.load.ensures.2))
