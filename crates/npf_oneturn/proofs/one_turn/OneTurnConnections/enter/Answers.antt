use Rattle.std.proofs.Common.{refl, ap, true, true≢false, arith, rules}
use Rattle.npf_oneturn.specs.{Endings.Plan, Views.one_if, declared.rule.CallEnding.TheVariants.Enters}
use Rattle.npf_oneturn.proofs.CallLemmas.{has_slot, represents_here, entered_here, may_rest, rested}
use Rattle.npf_oneturn.proofs.one_turn.OneTurnConnections.enter.Goals as goal

pub slot_mut-requires : goal.slot_mut-requires
slot_mut-requires g c =
    let t = c.take.ensures.taken in
    (c.take.ensures.of.same, (t.contents, has_slot g.L.Law.meaning _ _ t))

pub end-requires-clause-may : goal.end-requires-clause-may
end-requires-clause-may g c =
    let m = g.L.Law.meaning in
    let t = c.take.ensures.taken in
    let r = c.requires.out.own.1 in
    let here = represents_here m _ _ t _ c.slot_mut.ensures.value in
    let same = entered_here m _ _ t _ c.slot_mut.ensures.value in
    let none = ap one_if c.requires.out.out in
    may_rest m _ _ t Enters true _ _ _ refl here (omega (arith, same, none)) (λ e. absurd (true≢false e)) (λ e. absurd (true≢false e)) r.place t.stays.claimed t.stays.built

pub returns-clause-inside : goal.returns-clause-inside
returns-clause-inside g c =
    let m = g.L.Law.meaning in
    let t = c.take.ensures.taken in
    let r = c.requires.out.own.1 in
    record { own = search rules; legal = (rested m _ _ t r.lives r.theirs r.place _ _ _ c.end.ensures.ended (ap (λ (p : Plan _ _). p.acts) c.end.ensures.ended.by_plan)).1; entered = search rules }

pub returns-clause-adds : goal.returns-clause-adds
returns-clause-adds g c =
    let m = g.L.Law.meaning in
    let t = c.take.ensures.taken in
    let r = c.requires.out.own.1 in
    (rested m _ _ t r.lives r.theirs r.place _ _ _ c.end.ensures.ended (ap (λ (p : Plan _ _). p.acts) c.end.ensures.ended.by_plan)).0.adds
