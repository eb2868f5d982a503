use Rattle.std.proofs.Common.{rules}
use Rattle.npf_core.specs.declared.act.Act.TheVariants.{Start}
use Rattle.npf_oneturn_store.proofs.RepresentLemmas.{start_is_act}
use Rattle.npf_oneturn.proofs.CallLemmas.{has_slot, represents_here, entered_here, may_ask, asked}
use Rattle.npf_oneturn.proofs.one_turn.OneTurnConnections.start.Goals as goal

pub slot_mut-requires : goal.slot_mut-requires
slot_mut-requires g c =
    let t = c.take.ensures.taken in
    (c.take.ensures.of.same, (t.contents, has_slot g.L.Law.meaning _ _ t))

pub end-requires-clause-may : goal.end-requires-clause-may
end-requires-clause-may g c =
    let m = g.L.Law.meaning in
    let t = c.take.ensures.taken in
    let r = c.requires.inside.own.1 in
    let here = represents_here m _ _ t _ c.slot_mut.ensures.value in
    let same = entered_here m _ _ t _ c.slot_mut.ensures.value in
    let built = t.stays.built c.args.id c.requires.builds in
    may_ask m _ _ t c.requires.inside.entered (Start c.args.id c.args.n c.args.init) _ built (λ id e. absurd cc) (λ id why e. absurd cc) same
    (start_is_act m _ _ _ _ c.args.id c.args.init c.args.pass.now.seat.me.0.seats.number here built c.start.ensures c.args.n)

pub returns-clause-inside : goal.returns-clause-inside
returns-clause-inside g c =
    let r = c.requires.inside.own.1 in
    record {
      own = search rules;
      legal = (asked g.L.Law.meaning _ _ c.take.ensures.taken r.lives r.theirs r.place (Start c.args.id c.args.n c.args.init) _ _ c.end.ensures.ended).legal;
      entered = search rules;
    }

pub returns-clause-adds : goal.returns-clause-adds
returns-clause-adds g c =
    let m = g.L.Law.meaning in
    let t = c.take.ensures.taken in
    let r = c.requires.inside.own.1 in
    (asked m _ _ t r.lives r.theirs r.place (Start c.args.id c.args.n c.args.init) _ _ c.end.ensures.ended).adds
