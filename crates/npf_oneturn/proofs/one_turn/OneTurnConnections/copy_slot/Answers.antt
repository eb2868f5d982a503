use Rattle.std.proofs.Common.{refl, subst, arith, rules}
use Rattle.npf_core.specs.{Copying.Copies, History.state_of}
use Rattle.npf_oneturn.{specs.declared.rule.CallEnding.TheVariants.Nothing, proofs.CallLemmas.{has_slot, represents_here, entered_here, may_rest, left}}
use Rattle.npf_oneturn_store.proofs.RepresentLemmas.{shows_kept}
use Rattle.npf_oneturn.proofs.one_turn.OneTurnConnections.copy_slot.Goals as goal

pub slot_mut-requires : goal.slot_mut-requires
slot_mut-requires g c =
    let t = c.take.ensures.taken in
    (c.take.ensures.of.same, (t.contents, has_slot g.L.Law.meaning _ _ t))

pub end-requires-clause-may : goal.end-requires-clause-may
end-requires-clause-may g c =
    let m = g.L.Law.meaning in
    let t = c.take.ensures.taken in
    let r = c.requires.out.own.1 in
    let here = represents_here m _ _ t _ c.slot_mut.ensures.value in
    let same = entered_here m _ _ t _ c.slot_mut.ensures.value in
    may_rest m _ _ t Nothing _ _ _ _ refl here (omega (arith, same)) t.tidy.unanswered t.tidy.idle r.place t.stays.claimed t.stays.built

pub returns-clause-out : goal.returns-clause-out
returns-clause-out g c =
    let r = c.requires.out.own.1 in
    record { own = search rules; legal = (left g.L.Law.meaning _ _ c.take.ensures.taken r.lives r.theirs r.place c.requires.sole _ _ c.end.ensures.ended).legal; out = search rules }

pub returns-clause-same : goal.returns-clause-same
returns-clause-same g c =
    let r = c.requires.out.own.1 in
    (left g.L.Law.meaning _ _ c.take.ensures.taken r.lives r.theirs r.place c.requires.sole _ _ c.end.ensures.ended).same

pub returns-clause-copies : goal.returns-clause-copies
returns-clause-copies g c =
    let m = g.L.Law.meaning in
    let t = c.take.ensures.taken in
    let r = c.requires.out.own.1 in
    let here = represents_here m _ _ t _ c.slot_mut.ensures.value in
    let newest = (left m _ _ t r.lives r.theirs r.place c.requires.sole _ _ c.end.ensures.ended).newest in
    subst (λ log. Copies (state_of m log) c.args.slot c.kept-kept.result) newest (shows_kept _ _ _ _ c.args.slot _ here c.kept-kept.ensures)
