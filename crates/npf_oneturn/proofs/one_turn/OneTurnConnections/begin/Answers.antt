use Rattle.std.proofs.Common.{refl, sym, ap, subst, arith, [], ◌∷◌, rules}
use Rattle.npf_core.specs.declared.{act.Act.TheVariants.Claim, reply.Reply.TheVariants.ToClaim}
use Rattle.npf_connections.{specs.{Adding.AddsOwn, Entries.entry_of}, proofs.StayLemmas.claimed_holds_none}
use Rattle.npf_oneturn.specs.{Endings.Plan, Views.show, declared.rule.CallEnding.TheVariants.Nothing}
use Rattle.npf_oneturn_store.proofs.RepresentLemmas.{claim_is_act, stays_same}
use Rattle.npf_oneturn.proofs.CallLemmas.{has_slot, represents_here, entered_here, may_ask, may_rest, asked, rested}
use Rattle.npf_oneturn.proofs.one_turn.OneTurnConnections.begin.Goals as goal

pub slot_mut-requires : goal.slot_mut-requires
slot_mut-requires g c =
    let t = c.take.ensures.taken in
    (c.take.ensures.of.same, (t.contents, has_slot g.L.Law.meaning _ _ t))

pub end-requires-clause-may : goal.end-requires-clause-may
end-requires-clause-may g c =
    let m = g.L.Law.meaning in
    let t = c.take.ensures.taken in
    let r = c.requires.inside.own.1 in
    let here = represents_here m _ _ t _ c.slot_mut.ensures.value in
    let same = entered_here m _ _ t _ c.slot_mut.ensures.value in
    may_rest m _ _ t Nothing _ _ _ _ refl (stays_same _ _ _ _ _ here c.in_default.ensures.1) (omega (arith, same)) t.tidy.unanswered t.tidy.idle r.place t.stays.claimed t.stays.built

pub returns-in_default-clause-inside : goal.returns-in_default-clause-inside
returns-in_default-clause-inside g c =
    let m = g.L.Law.meaning in
    let t = c.take.ensures.taken in
    let r = c.requires.inside.own.1 in
    record { own = search rules; legal = (rested m _ _ t r.lives r.theirs r.place _ _ _ c.end.ensures.ended (ap (λ (p : Plan _ _). p.acts) c.end.ensures.ended.by_plan)).1; entered = search rules }

pub returns-in_default-clause-adds : goal.returns-in_default-clause-adds
returns-in_default-clause-adds g c =
    let m = g.L.Law.meaning in
    let t = c.take.ensures.taken in
    let r = c.requires.inside.own.1 in
    (rested m _ _ t r.lives r.theirs r.place _ _ _ c.end.ensures.ended (ap (λ (p : Plan _ _). p.acts) c.end.ensures.ended.by_plan)).0

pub end-requires-2-clause-may : goal.end-requires-2-clause-may
end-requires-2-clause-may g c =
    let m = g.L.Law.meaning in
    let t = c.take.ensures.taken in
    let r = c.requires.inside.own.1 in
    let here = represents_here m _ _ t _ c.slot_mut.ensures.value in
    let same = entered_here m _ _ t _ c.slot_mut.ensures.value in
    let acted = claim_is_act m _ _ _ _ c.in-Some.id here c.in-Some.ensures in
    may_ask m _ _ t c.requires.inside.entered (Claim c.args.n c.in-Some.id.slot) _ acted.may (λ id e. absurd cc)
    (λ id why e. absurd cc) same (acted.goes_on c.args.pass.now.seat.me.0.seats.number c.args.n)

pub returns-clause-inside : goal.returns-clause-inside
returns-clause-inside g c =
    let m = g.L.Law.meaning in
    let t = c.take.ensures.taken in
    let r = c.requires.inside.own.1 in
    record { own = search rules; legal = (asked m _ _ t r.lives r.theirs r.place (Claim c.args.n c.in-Some.id.slot) _ _ c.end-2.ensures.ended).legal; entered = search rules }

pub returns-clause-adds : goal.returns-clause-adds
returns-clause-adds g c =
    let m = g.L.Law.meaning in
    let t = c.take.ensures.taken in
    let r = c.requires.inside.own.1 in
    let here = represents_here m _ _ t _ c.slot_mut.ensures.value in
    let same = entered_here m _ _ t _ c.slot_mut.ensures.value in
    let acted = claim_is_act m _ _ _ _ c.in-Some.id here c.in-Some.ensures in
    let own = show c.args.pass.now.seat.me.0 in
    subst (λ i. AddsOwn own c.end-2.new.seat.me.0.seats.history (entry_of own (Claim c.args.n c.in-Some.id.slot) (ToClaim i) ∷ [])) (sym acted.identity)
    (asked m _ _ t r.lives r.theirs r.place (Claim c.args.n c.in-Some.id.slot) _ _ c.end-2.ensures.ended).adds

pub returns-clause-bare : goal.returns-clause-bare
returns-clause-bare g c =
    let m = g.L.Law.meaning in
    let t = c.take.ensures.taken in
    let r = c.requires.inside.own.1 in
    let here = represents_here m _ _ t _ c.slot_mut.ensures.value in
    let same = entered_here m _ _ t _ c.slot_mut.ensures.value in
    let acted = claim_is_act m _ _ _ _ c.in-Some.id here c.in-Some.ensures in
    let a = (asked m _ _ t r.lives r.theirs r.place (Claim c.args.n c.in-Some.id.slot) _ _ c.end-2.ensures.ended) in
    λ way. rw a.view (claimed_holds_none m _ t.log _ c.in-Some.id way (rw a.view at a.legal.legal) (ap ToClaim (sym acted.identity)))
