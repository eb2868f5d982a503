use Rattle.std.{proofs.{Common.{rules, ◌≡◌, ◌∷◌, [], All, ap, length}, lemmas.List.{nil_from_length, Elements.All-rest}}, specs.Vec.Iter.into_iter_items}
use Rattle.npf_reass_run.{specs.Gathering.IsOfferAmong, proofs.ListLemmas.{OfferList, all_arrived, arrived_next}}
use Rattle.npf_reass_run.proofs.gather.arrived_lists.Goals as goal

pub loop-list-preserved : goal.loop-list-preserved
loop-list-preserved c =
    let packets = c.args.packets.now in
    let list = c.in-Some.list in
    let class = c.in_ok-arrived_list.field-0 in
    let before = into_iter_items c.loop-list.list-iterator in
    let after = into_iter_items c.next.new.self in
    let inv = c.loop-list.invariant in
    let items : before ≡ list ∷ after = c.in-Some.ensures.steps.0 in
    let one = c.in_ok-arrived_list.ensures in
    let more = ap length items in
    let room = inv.4 in (
      tt,
      tt,
      All-rest (λ (l : OfferList). All (IsOfferAmong packets) l.items) list after before items inv.2,
      rw c.push_reserved.ensures.items
          (arrived_next packets c.args.lists.items before after list c.loop-list.classes.items class
          items inv.3 one),
      search rules,
    )

pub returns : goal.returns
returns c =
    let rest = into_iter_items c.loop-list.list-iterator in
    let none : rest ≡ [] = nil_from_length rest (search rules) in
    all_arrived c.args.packets.now c.args.lists.items rest c.loop-list.classes.items none
    c.loop-list.invariant.3
