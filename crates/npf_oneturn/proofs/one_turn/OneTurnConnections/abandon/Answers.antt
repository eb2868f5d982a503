use Rattle.std.proofs.Common.{rules}
use Rattle.npf_core.specs.declared.act.Why.TheVariants.{Abandoned}
use Rattle.npf_oneturn.proofs.{AbandonLemmas.{may_abandon, abandoned}, CallLemmas.{has_slot, represents_here, entered_here}}
use Rattle.npf_oneturn_store.proofs.RepresentLemmas.{shows_alive, shows_bare}
use Rattle.npf_oneturn.proofs.one_turn.OneTurnConnections.abandon.Goals as goal

pub slot_mut-requires : goal.slot_mut-requires
slot_mut-requires g c =
    let t = c.take.ensures.taken in
    (c.take.ensures.of.same, (t.contents, has_slot g.L.Law.meaning _ _ t))

pub end_connection-requires : goal.end_connection-requires
end_connection-requires g c =
    let m = g.L.Law.meaning in
    let t = c.take.ensures.taken in
    let r = c.requires.inside.own.1 in
    let here = represents_here m _ _ t _ c.slot_mut.ensures.value in
    let same = entered_here m _ _ t _ c.slot_mut.ensures.value in
    shows_alive _ _ _ _ c.args.id here (rw (t.stays.built c.args.id c.requires.builds) tt)

pub end-requires-clause-may : goal.end-requires-clause-may
end-requires-clause-may g c =
    let m = g.L.Law.meaning in
    let t = c.take.ensures.taken in
    let r = c.requires.inside.own.1 in
    let here = represents_here m _ _ t _ c.slot_mut.ensures.value in
    let same = entered_here m _ _ t _ c.slot_mut.ensures.value in
    let ends = c.end_connection.ensures.ends _ _ c.args.pass.now.seat.me.0.seats.number Abandoned here (t.stays.built c.args.id c.requires.builds) in
    may_abandon m _ _ t c.args.id c.requires.builds c.requires.inside.entered _ same ends (λ way. (shows_bare _ _ _ _ c.args.id way ends.works.represents).1 (c.end_connection.ensures.bare way))

pub returns-clause-inside : goal.returns-clause-inside
returns-clause-inside g c =
    let m = g.L.Law.meaning in
    let t = c.take.ensures.taken in
    let r = c.requires.inside.own.1 in
    record {
      own = search rules;
      legal = (abandoned m _ _ t r.lives r.theirs r.place c.requires.inside.legal c.args.id c.requires.builds c.requires.inside.entered _ _ c.end.ensures.ended).1;
      entered = search rules;
    }

pub returns-clause-adds : goal.returns-clause-adds
returns-clause-adds g c =
    let m = g.L.Law.meaning in
    let t = c.take.ensures.taken in
    let r = c.requires.inside.own.1 in
    (abandoned m _ _ t r.lives r.theirs r.place c.requires.inside.legal c.args.id c.requires.builds c.requires.inside.entered _ _ c.end.ensures.ended).0
