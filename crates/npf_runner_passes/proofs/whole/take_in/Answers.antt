use Rattle.std.{proofs.{Common.{rules, ◌≡◌, ◌∷◌, [], map, sym, subst, refl}, lemmas.List.nil_from_length}, specs.Vec.Iter.into_iter_items}
use Rattle.std.proofs.lemmas.List.Elements.{All-rest, All-map}
use Rattle.npf_connections.specs.{Pass.Pass, Stay.IsOut}
use Rattle.npf_runner_passes.proofs.WholeLemmas.{TakesIn, gathers}
use Rattle.npf_runner_passes.proofs.whole.take_in.Goals as goal

pub loop-other-preserved : goal.loop-other-preserved
loop-other-preserved g c =
    let V = g.C.Connections.view in
    let other = c.in-Some.other in
    let before = into_iter_items c.loop-other.other-iterator in
    let after = into_iter_items c.next.new.self in
    let inv = c.loop-other.invariant in
    let items : before ≡ other ∷ after = c.in-Some.ensures.steps.0 in (
      tt,
      tt,
      c.join.ensures.out,
      All-rest (IsOut g.L.Law.meaning (g.C.Connections.fits c.args.conns.now) V) other after before items inv.3,
      (λ now t. inv.4 now (subst (λ z. TakesIn (V c.loop-other.pass) (map V z) now) (sym items) (V c.join.new.pass, c.join.ensures.joins, t))),
    )

pub returns-clause-gathers : goal.returns-clause-gathers
returns-clause-gathers g c =
    let V = g.C.Connections.view in
    let inv = c.loop-other.invariant in
    let none : into_iter_items c.loop-other.other-iterator ≡ [] = nil_from_length (into_iter_items c.loop-other.other-iterator) (search rules) in
    gathers (V c.args.pass.now) (map V c.args.others.items) (V c.loop-other.pass)
    (All-map (λ (p : Pass _). p.joined ≡ []) V c.args.others.items c.requires.unjoined)
    (inv.4 (V c.loop-other.pass) (subst (λ z. TakesIn (V c.loop-other.pass) (map V z) (V c.loop-other.pass)) (sym none) refl))
