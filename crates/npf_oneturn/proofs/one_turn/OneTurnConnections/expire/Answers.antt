use Rattle.std.proofs.Common.{rules}
use Rattle.npf_oneturn.proofs.{ExpireLemmas.{may_expire, expired}, CallLemmas.{has_slot, represents_here, entered_here}}
use Rattle.npf_oneturn.proofs.one_turn.OneTurnConnections.expire.Goals as goal

pub slot_mut-requires : goal.slot_mut-requires
slot_mut-requires g c =
    let t = c.take.ensures.taken in
    (c.take.ensures.of.same, (t.contents, has_slot g.L.Law.meaning _ _ t))

pub end-requires-clause-may : goal.end-requires-clause-may
end-requires-clause-may g c =
    let m = g.L.Law.meaning in
    let t = c.take.ensures.taken in
    let r = c.requires.out.own.1 in
    let here = represents_here m _ _ t _ c.slot_mut.ensures.value in
    let same = entered_here m _ _ t _ c.slot_mut.ensures.value in
    may_expire m _ _ t c.requires.out.out c.args.now _ c.slot_mut.result.now _ here same (c.expire_all-count.ensures _ _ c.args.pass.now.seat.me.0.seats.number here)

pub returns-clause-out : goal.returns-clause-out
returns-clause-out g c =
    let m = g.L.Law.meaning in
    let t = c.take.ensures.taken in
    let r = c.requires.out.own.1 in
    record { own = search rules; legal = (expired m _ _ t r.lives r.theirs r.place c.args.now _ _ _ c.end.ensures.ended).1; out = search rules }

pub returns-clause-adds : goal.returns-clause-adds
returns-clause-adds g c =
    let m = g.L.Law.meaning in
    let t = c.take.ensures.taken in
    let r = c.requires.out.own.1 in
    (expired m _ _ t r.lives r.theirs r.place c.args.now _ _ _ c.end.ensures.ended).0
