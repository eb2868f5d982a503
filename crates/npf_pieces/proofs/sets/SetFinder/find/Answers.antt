use Rattle.std.{proofs.Common.{◌≡◌, ℕ, ◌<◌, ◌≤◌, List, ◌++◌, [], map, subst, sym, arith}, specs.Prelude.slice_range}
use Rattle.npf_pieces.specs.{Judged.IsJudged, Sets.{Set, set_at, sets_from}}
use Rattle.npf_pieces.proofs.sets.SetFinder.find.Goals as goal

pub loop-place-preserved : goal.loop-place-preserved
loop-place-preserved c =
    let all = c.args.arrived.now in
    let to = c.args.to in
    let wanted : List Set = map (set_at all) c.args.sets.now.items ++ sets_from [] (slice_range all c.args.from to) in
    let inv = c.loop-place.invariant in
    let late = c.in_ok-close_late.ensures in
    let more : c.loop-place.self.known.behind < to = omega (arith, inv.at, c.loop-place-test.true) in
    let still : c.close_late.new.known.behind < to = omega (arith, late.place, more) in
    let inside = c.requires.order.2 in
    record {
      at = omega (arith, c.in_ok-take.ensures.place, late.place, inv.at);
      judged = c.in_ok-take.ensures.judged to wanted still inside (late.judged to wanted more inside inv.judged);
    }

pub returns-clause-found : goal.returns-clause-found
returns-clause-found c =
    let all = c.args.arrived.now in
    let to = c.args.to in
    let wanted : List Set = map (set_at all) c.args.sets.now.items ++ sets_from [] (slice_range all c.args.from to) in
    let inv = c.loop-place.invariant in
    let known = c.loop-place.self.known in
    let e : known.behind ≡ to = omega (arith, inv.at, c.loop-place.auto.place-end c.requires.order.1, c.loop-place-test.false) in
    let judged = subst (λ (n : ℕ). IsJudged all n wanted known c.loop-place.sets.items) (sym e) inv.judged in
    (c.in_ok-close_last.ensures.ends wanted judged).0

pub returns-clause-within : goal.returns-clause-within
returns-clause-within c =
    let all = c.args.arrived.now in
    let to = c.args.to in
    let wanted : List Set = map (set_at all) c.args.sets.now.items ++ sets_from [] (slice_range all c.args.from to) in
    let inv = c.loop-place.invariant in
    let known = c.loop-place.self.known in
    let e : known.behind ≡ to = omega (arith, inv.at, c.loop-place.auto.place-end c.requires.order.1, c.loop-place-test.false) in
    let judged = subst (λ (n : ℕ). IsJudged all n wanted known c.loop-place.sets.items) (sym e) inv.judged in
    (c.in_ok-close_last.ensures.ends wanted judged).1
