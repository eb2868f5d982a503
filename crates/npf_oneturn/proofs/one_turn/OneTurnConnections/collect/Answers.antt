use Rattle.std.proofs.Common.{rules}
use Rattle.npf_oneturn.proofs.{CollectLemmas.{may_collect, collected}, CallLemmas.{has_slot, represents_here, entered_here}}
use Rattle.npf_oneturn_store.proofs.RepresentLemmas.{shows_dead, shows_bare}
use Rattle.npf_oneturn.proofs.one_turn.OneTurnConnections.collect.Goals as goal

pub slot_mut-requires : goal.slot_mut-requires
slot_mut-requires g c =
    let t = c.take.ensures.taken in
    (c.take.ensures.of.same, (t.contents, has_slot g.L.Law.meaning _ _ t))

pub collect_contents-requires : goal.collect_contents-requires
collect_contents-requires g c =
    let m = g.L.Law.meaning in
    let t = c.take.ensures.taken in
    let r = c.requires.out.own.1 in
    let here = represents_here m _ _ t _ c.slot_mut.ensures.value in
    let same = entered_here m _ _ t _ c.slot_mut.ensures.value in
    λ id dead way. (shows_bare _ _ _ _ id way here).0 (t.bare id ((shows_dead _ _ _ _ id here).1 dead) way)

pub end-requires-clause-may : goal.end-requires-clause-may
end-requires-clause-may g c =
    let m = g.L.Law.meaning in
    let t = c.take.ensures.taken in
    let r = c.requires.out.own.1 in
    let here = represents_here m _ _ t _ c.slot_mut.ensures.value in
    let same = entered_here m _ _ t _ c.slot_mut.ensures.value in
    let e = c.collect_contents.ensures in
    may_collect m _ _ t c.requires.out.out _ _ here same e.entered (λ none. e.frees none _ _ c.args.pass.now.seat.me.0.seats.number here) e.same

pub returns-clause-out : goal.returns-clause-out
returns-clause-out g c =
    let m = g.L.Law.meaning in
    let t = c.take.ensures.taken in
    let r = c.requires.out.own.1 in
    record { own = search rules; legal = (collected m _ _ t r.lives r.theirs r.place c.requires.out.out _ _ c.end.ensures.ended).legal; out = search rules }

pub returns-clause-adds : goal.returns-clause-adds
returns-clause-adds g c =
    let m = g.L.Law.meaning in
    let t = c.take.ensures.taken in
    let r = c.requires.out.own.1 in
    (collected m _ _ t r.lives r.theirs r.place c.requires.out.out _ _ c.end.ensures.ended).adds

pub returns-clause-clean : goal.returns-clause-clean
returns-clause-clean g c =
    let m = g.L.Law.meaning in
    let t = c.take.ensures.taken in
    let r = c.requires.out.own.1 in
    (collected m _ _ t r.lives r.theirs r.place c.requires.out.out _ _ c.end.ensures.ended).clean
