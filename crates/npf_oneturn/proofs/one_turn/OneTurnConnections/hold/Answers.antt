use Rattle.std.proofs.Common.{rules}
use Rattle.npf_core.specs.declared.act.Act.TheVariants.{Hold}
use Rattle.npf_oneturn_store.proofs.RepresentLemmas.{hold_is_act, shows_bare}
use Rattle.npf_connections.proofs.StayLemmas.{holding_keeps_ways, holding_keeps_bare}
use Rattle.npf_oneturn.proofs.CallLemmas.{has_slot, represents_here, entered_here, may_ask, asked, still_none, held_so}
use Rattle.npf_oneturn.proofs.one_turn.OneTurnConnections.hold.Goals as goal

pub slot_mut-requires : goal.slot_mut-requires
slot_mut-requires g c =
    let t = c.take.ensures.taken in
    (c.take.ensures.of.same, (t.contents, has_slot g.L.Law.meaning _ _ t))

pub hold-held-requires-clause-none : goal.hold-held-requires-clause-none
hold-held-requires-clause-none g c =
    let m = g.L.Law.meaning in
    let t = c.take.ensures.taken in
    let r = c.requires.inside.own.1 in
    let here = represents_here m _ _ t _ c.slot_mut.ensures.value in
    let same = entered_here m _ _ t _ c.slot_mut.ensures.value in
    (shows_bare _ _ _ _ c.args.id c.args.way here).0 (still_none m _ _ t c.requires.inside.legal c.args.id c.args.way c.requires.builds c.requires.none)

pub end-requires-clause-may : goal.end-requires-clause-may
end-requires-clause-may g c =
    let m = g.L.Law.meaning in
    let t = c.take.ensures.taken in
    let r = c.requires.inside.own.1 in
    let here = represents_here m _ _ t _ c.slot_mut.ensures.value in
    let same = entered_here m _ _ t _ c.slot_mut.ensures.value in
    let acted = hold_is_act m _ _ _ _ c.args.id c.args.key c.args.way _ here c.hold-held.ensures.answer in
    let none = still_none m _ _ t c.requires.inside.legal c.args.id c.args.way c.requires.builds c.requires.none in
    may_ask m _ _ t c.requires.inside.entered (Hold c.args.id c.args.key c.args.way) _
    (record { built = t.stays.built c.args.id c.requires.builds; none = none }) (λ id e. absurd cc) (λ id why e. absurd cc) same
    (acted.goes_on c.args.pass.now.seat.me.0.seats.number)

pub returns-clause-inside : goal.returns-clause-inside
returns-clause-inside g c =
    let r = c.requires.inside.own.1 in
    record {
      own = search rules;
      legal = (asked g.L.Law.meaning _ _ c.take.ensures.taken r.lives r.theirs r.place (Hold c.args.id c.args.key c.args.way) _ _ c.end.ensures.ended).legal;
      entered = search rules;
    }

pub returns-clause-adds : goal.returns-clause-adds
returns-clause-adds g c =
    let m = g.L.Law.meaning in
    let t = c.take.ensures.taken in
    let r = c.requires.inside.own.1 in
    let here = represents_here m _ _ t _ c.slot_mut.ensures.value in
    let same = entered_here m _ _ t _ c.slot_mut.ensures.value in
    let acted = hold_is_act m _ _ _ _ c.args.id c.args.key c.args.way _ here c.hold-held.ensures.answer in
    (held_so m _ _ t r.lives r.theirs r.place c.requires.inside.legal c.args.id c.args.key c.args.way _ c.requires.builds c.requires.none _ _ c.end.ensures.ended acted.replied).adds

pub returns-clause-ways : goal.returns-clause-ways
returns-clause-ways g c =
    let m = g.L.Law.meaning in
    let t = c.take.ensures.taken in
    let r = c.requires.inside.own.1 in
    let here = represents_here m _ _ t _ c.slot_mut.ensures.value in
    let same = entered_here m _ _ t _ c.slot_mut.ensures.value in
    let acted = hold_is_act m _ _ _ _ c.args.id c.args.key c.args.way _ here c.hold-held.ensures.answer in
    holding_keeps_ways m _ _ c.args.id c.args.key c.args.way _
    (held_so m _ _ t r.lives r.theirs r.place c.requires.inside.legal c.args.id c.args.key c.args.way _ c.requires.builds c.requires.none _ _ c.end.ensures.ended acted.replied)

pub returns-clause-bare : goal.returns-clause-bare
returns-clause-bare g c =
    let m = g.L.Law.meaning in
    let t = c.take.ensures.taken in
    let r = c.requires.inside.own.1 in
    let here = represents_here m _ _ t _ c.slot_mut.ensures.value in
    let same = entered_here m _ _ t _ c.slot_mut.ensures.value in
    let acted = hold_is_act m _ _ _ _ c.args.id c.args.key c.args.way _ here c.hold-held.ensures.answer in
    holding_keeps_bare m _ _ c.args.id c.args.key c.args.way _
    (held_so m _ _ t r.lives r.theirs r.place c.requires.inside.legal c.args.id c.args.key c.args.way _ c.requires.builds c.requires.none _ _ c.end.ensures.ended acted.replied)
