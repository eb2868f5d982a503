use Rattle.std.proofs.Common.{rules, ◌≡◌, ◌<◌, ◌+◌, [], ◌∷◌, ◌++◌, All, map, drop, set, get_or, length, ap, sym, ◌∙◌, arith}
use Rattle.std.proofs.lemmas.List.{drop_more, length-map, map-set, Elements.All-map}
use Rattle.npf_runner_dealing.{specs.Lanes.{of_lane, vec_items}, proofs.LaneLemmas.{dealt_more, get_or-map}}
use Rattle.npf_runner_dealing.proofs.lanes.deal.Goals as goal

pub loop-lane-init : goal.loop-lane-init
loop-lane-init g c =
    let items : c.from-left.result.items ≡ c.args.items.items = search rules in
    let order = c.args.order.now in
    let dealt = c.in_ok-dealt.dealt.items in
    let len : length (map vec_items dealt) ≡ c.args.lanes = length-map dealt vec_items ∙ search rules in
    let none : All (λ lane. lane ≡ []) (map vec_items dealt) = All-map (λ lane. lane ≡ []) vec_items dealt c.in_ok-dealt.ensures.empty in (
      search rules,
      search rules,
      (λ w d low.
          let low' : w < length (map vec_items dealt) = rw len low in
          ap (of_lane w order) (sym items) ∙ ap (λ z. z ++ of_lane w order c.from-left.result.items) (sym (none w d low'))),
    )

pub loop-lane-preserved : goal.loop-lane-preserved
loop-lane-preserved g c =
    let i = c.loop-lane.lane-index in
    let order = c.args.order.now in
    let item = c.unwrap-item.result in
    let before = c.loop-lane.left.items in
    let after = c.pop_front.new.self.items in
    let inv = c.loop-lane.invariant in
    let items : before ≡ item ∷ after = search rules in
    let some : i < length order = search rules in
    let v = get_or order i 0 in
    let dealt = c.loop-lane.dealt.items in
    let lanes = map vec_items dealt in
    let vec = c.index_mut.result.now in
    let new = c.push.new.self in
    let count : length dealt ≡ c.args.lanes = search rules in
    let fits : v < c.args.lanes = c.requires.lanes i 0 some in
    let low : v < length dealt = rw count fits in
    let low' : v < length lanes = rw (length-map dealt vec_items) low in
    let push : new.items ≡ vec.items ++ item ∷ [] = search rules in
    let at : vec.items ≡ get_or lanes v vec.items = ap vec_items c.index_mut.ensures.value ∙ sym (get_or-map vec_items dealt v vec vec.items low) in
    let dropped : drop i order ≡ v ∷ drop (i + 1) order = drop_more order i 0 some in
    let set_is : map vec_items (set dealt v new) ≡ set lanes v (vec.items ++ item ∷ []) = map-set vec_items dealt v new ∙ ap (set lanes v) push in (
      search rules,
      (let n = inv.1 in let m = ap length items in omega (arith, n, m)),
      (λ w d less. inv.2 w d less
          ∙ (ap (λ z. get_or lanes w d ++ of_lane w (drop i order) z) items
          ∙ (ap (λ z. get_or lanes w d ++ of_lane w z (item ∷ after)) dropped
          ∙ (dealt_more v (drop (i + 1) order) item after lanes vec.items low' at w d
          ∙ ap (λ z. get_or z w d ++ of_lane w (drop (i + 1) order) after) (sym set_is))))),
    )
