use Rattle.std.proofs.Common.{◌/◌, refl, sym, subst}
use Rattle.npf_cells_takes.specs.SlotKinds.{HasClaimed}
use Rattle.npf_pool.proofs.TakeLemmas.{searched_more, lost_search, sees_none, sees_then, seen_slots, claimed_since, claims_then, before_search}
use Rattle.npf_pool.proofs.takes.take.Goals as goal

pub loop-init : goal.loop-init
loop-init g c = record { own = c.requires.own; searched = λ e. refl; seen = λ e. sees_none g.L.Law.meaning c.args.pass.now.seat.me }

pub loop-preserved : goal.loop-preserved
loop-preserved g c =
    let old = c.args.pass.now.seat.me in
    let now = c.loop.pass.seat.me in
    let mid = c.find_clear.new.pass.seat.me in
    let next = c.claim.new.pass.seat.me in
    record {
      own = c.claim.ensures.own;
      searched = λ e. searched_more old mid next (searched_more old now mid (c.loop.invariant.searched e) (c.in-Some-find_clear.ensures.searches e))
          (lost_search mid next (c.claim.ensures.loses e c.if-claim.false));
      seen = λ e. sees_then g.L.Law.meaning old mid next (sees_then g.L.Law.meaning old now mid (c.loop.invariant.seen e) (c.find_clear.ensures.sees e))
          (seen_slots g.L.Law.meaning c.args.cells.now.table.shared.key (c.in-Some-find_clear.place / 64) next.0.pools.found mid next (c.claim.ensures.sees e c.if-claim.false));
    }

pub returns-then-claim-clause-claims : goal.returns-then-claim-clause-claims
returns-then-claim-clause-claims g c = λ e.
    let old = c.args.pass.now.seat.me in
    let now = c.loop.pass.seat.me in
    let mid = c.find_clear.new.pass.seat.me in
    subst (λ seat. HasClaimed g.L.Law.meaning c.args.n c.in-Some-find_clear.place old seat.me) (sym c.set_hint.ensures.seat)
    (claims_then g.L.Law.meaning c.args.n c.in-Some-find_clear.place old mid c.claim.new.pass.seat.me
    (sees_then g.L.Law.meaning old now mid (c.loop.invariant.seen e) (c.find_clear.ensures.sees e)) (c.claim.ensures.slot e c.if-claim.true))

pub returns-in-None-find_clear-clause-sees : goal.returns-in-None-find_clear-clause-sees
returns-in-None-find_clear-clause-sees g c = λ e.
    sees_then g.L.Law.meaning c.args.pass.now.seat.me c.loop.pass.seat.me c.find_clear.new.pass.seat.me (c.loop.invariant.seen e) (c.find_clear.ensures.sees e)

pub returns-in-None-find_clear-clause-full : goal.returns-in-None-find_clear-clause-full
returns-in-None-find_clear-clause-full g c = λ e word h. before_search _ _ _ c.args.pass.now.seat.me c.loop.pass.seat.me word (c.loop.invariant.searched e) (c.in-None-find_clear.ensures.full e word h)

pub returns-in-None-find_clear-clause-claimed : goal.returns-in-None-find_clear-clause-claimed
returns-in-None-find_clear-clause-claimed g c = λ e.
    claimed_since g.L.Law.meaning c.args.pass.now.seat.me c.loop.pass.seat.me c.find_clear.new.pass.seat.me (c.loop.invariant.seen e) (c.in-None-find_clear.ensures.claimed e)
