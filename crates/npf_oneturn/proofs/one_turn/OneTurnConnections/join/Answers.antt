use Rattle.std.proofs.Common.{sym, ap, ◌∙◌, arith, rules, length-append}
use Rattle.npf_oneturn.proofs.JoinLemmas.{joins, learns, joined_so, joined_pass, joined_rests}
use Rattle.npf_oneturn.proofs.one_turn.OneTurnConnections.join.Goals as goal

pub join_seat-requires : goal.join_seat-requires
join_seat-requires g c =
    let of = c.requires.out.own.0 in
    let r = c.requires.out.own.1 in
    let o = c.requires.other.own.1 in (
      of.same,
      c.requires.other.own.0.same,
      o.free,
      omega (arith, of.words),
      joins g.L.Law.meaning _ _ c.args.pass.now.seat.me.0 _ c.args.other.seat.me.0 r.lives r.turn r.theirs r.place o.lives o.turn o.theirs c.requires.other.out,
    )

pub load-requires : goal.load-requires
load-requires g c =
    let of = c.requires.out.own.0 in
    let r = c.requires.out.own.1 in
    let e = c.join_seat.ensures in
    let has = length-append c.args.pass.now.seat.me.0.seats.readers c.args.other.seat.me.0.seats.readers in (
      e.0 ∙ of.same,
      omega (arith, of.words),
      learns g.L.Law.meaning _ _ _ _ _ (ap (λ y. y.0.seats.lives) e.2 ∙ r.lives) (ap (λ y. y.0.turn) e.2 ∙ r.turn) (rw e.2 (omega (arith, has, r.place))),
    )

pub returns-clause-out : goal.returns-clause-out
returns-clause-out g c =
    let l = rw c.join_seat.ensures.2 at c.load.ensures.2 in
    record {
      own = (search rules, joined_rests g.L.Law.meaning _ c.args.pass.now.seat.me.0 c.args.other.seat.me.0 c.args.pass.now.seat.me.1 _ _ l c.requires.out.own.1, search rules);
      legal = joined_pass g.L.Law.meaning _ c.args.pass.now.seat.me.0 c.args.other.seat.me.0 _ _ _ l c.requires.out.legal c.requires.out.out;
      out = search rules;
    }

pub returns-clause-joins : goal.returns-clause-joins
returns-clause-joins g c =
    joined_so g.L.Law.meaning _ c.args.pass.now.seat.me.0 c.args.other.seat.me.0 _ _ _ (rw c.join_seat.ensures.2 at c.load.ensures.2) (c.requires.other.own.2 ∙ sym c.requires.out.own.2)
