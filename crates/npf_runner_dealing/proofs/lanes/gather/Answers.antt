use Rattle.std.proofs.Common.{rules, ◌≡◌, ◌<◌, ◌+◌, [], ◌∷◌, ◌++◌, List, map, drop, set, get_or, length, ap, sym, subst, ◌∙◌, arith}
use Rattle.std.proofs.lemmas.List.{drop_more, append_assoc, map-set, length-map}
use Rattle.npf_runner_dealing.{specs.Lanes.{IsDealt, queue_items}, proofs.LaneLemmas.{dealt_low, dealt_first, dealt_rest, get_or-map}}
use Rattle.npf_runner_dealing.proofs.lanes.gather.Goals as goal

pub unwrap-item-requires : goal.unwrap-item-requires
unwrap-item-requires g c =
    let i = c.loop-lane.lane-index in
    let order = c.args.order.now in
    let v = get_or order i 0 in
    let queues = c.loop-lane.lanes.items in
    let lanes = map queue_items queues in
    let q = c.index_mut.result.now in
    let w = c.loop-lane.invariant.0 in
    let dropped : drop i order ≡ v ∷ drop (i + 1) order = drop_more order i 0 (search rules) in
    let is : IsDealt (v ∷ drop (i + 1) order) w.0 lanes = subst (λ z. IsDealt z w.0 lanes) dropped w.1 in
    let low : v < length queues = subst (λ n. v < n) (length-map queues queue_items) (dealt_low v (drop (i + 1) order) w.0 lanes is) in
    let at : q.items ≡ get_or lanes v q.items = ap queue_items c.index_mut.ensures.value ∙ sym (get_or-map queue_items queues v q q.items low) in
    let some : 0 < length q.items = dealt_first v (drop (i + 1) order) w.0 lanes q.items is at in
    search rules

pub loop-lane-preserved : goal.loop-lane-preserved
loop-lane-preserved g c =
    let i = c.loop-lane.lane-index in
    let order = c.args.order.now in
    let v = get_or order i 0 in
    let rest = drop (i + 1) order in
    let queues = c.loop-lane.lanes.items in
    let lanes = map queue_items queues in
    let q = c.index_mut.result.now in
    let left = c.pop_front.new.self in
    let item = c.unwrap-item.result in
    let inv = c.loop-lane.invariant in
    let some : i < length order = search rules in
    let dropped : drop i order ≡ v ∷ rest = drop_more order i 0 some in
    let pops : q.items ≡ item ∷ left.items = search rules in
    let first : IsDealt (v ∷ rest) inv.0.0 lanes = subst (λ z. IsDealt z inv.0.0 lanes) dropped inv.0.1 in
    let low : v < length queues = subst (λ n. v < n) (length-map queues queue_items) (dealt_low v rest inv.0.0 lanes first) in
    let at : q.items ≡ get_or lanes v q.items = ap queue_items c.index_mut.ensures.value ∙ sym (get_or-map queue_items queues v q q.items low) in
    let set_is : set lanes v left.items ≡ map queue_items (set queues v left) = sym (map-set queue_items queues v left) in
    let next : (xs : List g.row.T.Denot) → IsDealt (drop i order) xs lanes → (ys : List g.row.T.Denot) × (xs ≡ item ∷ ys) × IsDealt rest ys (map queue_items (set queues v left)) =
    λ xs h. let r = dealt_rest v rest xs lanes q.items left.items item (subst (λ z. IsDealt z xs lanes) dropped h) at pops in
    (r.0, r.1, subst (λ z. IsDealt rest r.0 z) set_is r.2) in
    let w = next inv.0.0 inv.0.1 in
    let all : c.push_reserved.new.self.items ≡ c.loop-lane.all.items ++ item ∷ [] = search rules in
    let shorter : length (drop i order) ≡ length rest + 1 = ap length dropped ∙ omega arith in
    let room = inv.2 in (
      (w.0, w.2),
      (λ xs h.
          let l = inv.1 xs h in
          let n = next l.0 l.2 in
          (n.0, l.1 ∙ (ap (λ z. c.loop-lane.all.items ++ z) n.1 ∙ (sym (append_assoc c.loop-lane.all.items (item ∷ []) n.0) ∙ ap (λ z. z ++ n.0) (sym all))), n.2)),
      search rules,
      search rules,
    )
