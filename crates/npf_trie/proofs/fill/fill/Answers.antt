use Rattle.std.proofs.Common.{refl, sym, ap, subst, arith}
use Rattle.npf_cells.specs.Cells.{IsPassIn}
use Rattle.npf_turn.proofs.MarkLemmas.{none_marked}
use Rattle.npf_trie.proofs.{CountLemmas.{by_load, by_pools, by_store, by_trie, by_words}, StepLemmas.leaf_loaded}
use Rattle.npf_trie.proofs.FillLemmas.{aims_there, aims_so, aim_tells, left_anew, ready_now, only_lock, still_unmarked, freed_so, may_note}
use Rattle.npf_trie.proofs.FillLemmas.{may_fill, came_empty, came_node, came_holder, came_other, came_mark}
use Rattle.npf_trie.proofs.fill.fill.Goals as goal
use Rattle.npf_trie.proofs.fill.fill.Goals.{in-Empty, in-Node, in-Leaf+in-Holder, in-Leaf+in-Other, in-Mark}

pub load_place-requires-clause-stands : goal.load_place-requires-clause-stands
load_place-requires-clause-stands g c =
    let ready = ready_now g.L.Law.meaning g.H.KeyHash.digest c.args.cells.now.table.shared.key c.args.wanted.now c.args.point _ _ _ _ _ c.requires.can
    (none_marked c.requires.own c.requires.can.locks) c.requires.at c.lock.ensures c.store_key.ensures.next c.store_key.ensures.stores (c.lock_hung.ensures.gets c.if-not-lock_hung.false) in
    aims_there g.H.KeyHash.digest c.lock_hung.new.pass.seat.me.0.trie c.args.wanted.now c.args.point.place _ c.aim.ensures ready.at.stands

pub load_place-requires-clause-aim : goal.load_place-requires-clause-aim
load_place-requires-clause-aim g c =
    let ready = ready_now g.L.Law.meaning g.H.KeyHash.digest c.args.cells.now.table.shared.key c.args.wanted.now c.args.point _ _ _ _ _ c.requires.can
    (none_marked c.requires.own c.requires.can.locks) c.requires.at c.lock.ensures c.store_key.ensures.next c.store_key.ensures.stores (c.lock_hung.ensures.gets c.if-not-lock_hung.false) in
    aims_so g.L.Law.meaning _ c.args.wanted.now _ c.aim.ensures ready.may

pub store_note-requires-clause-may : goal.store_note-requires-clause-may
store_note-requires-clause-may g c =
    let ready = ready_now g.L.Law.meaning g.H.KeyHash.digest c.args.cells.now.table.shared.key c.args.wanted.now c.args.point _ _ _ _ _ c.requires.can
    (none_marked c.requires.own c.requires.can.locks) c.requires.at c.lock.ensures c.store_key.ensures.next c.store_key.ensures.stores (c.lock_hung.ensures.gets c.if-not-lock_hung.false) in
    may_note ready c.aim.ensures _ c.in-Empty.ensures.tells

pub publish_place-requires-clause-may : goal.publish_place-requires-clause-may
publish_place-requires-clause-may g c =
    let ready = ready_now g.L.Law.meaning g.H.KeyHash.digest c.args.cells.now.table.shared.key c.args.wanted.now c.args.point _ _ _ _ _ c.requires.can
    (none_marked c.requires.own c.requires.can.locks) c.requires.at c.lock.ensures c.store_key.ensures.next c.store_key.ensures.stores (c.lock_hung.ensures.gets c.if-not-lock_hung.false) in
    may_fill ready c.aim.ensures _ c.in-Empty.ensures.tells _ _ c.aim-in-Empty.ensures _ _ c.store_note.ensures.next c.leaf_note-place.ensures.is c.leaf.ensures

pub meet-requires-clause-leaf : goal.meet-requires-clause-leaf
meet-requires-clause-leaf g c =
    let loads = aim_tells g.L.Law.meaning g.H.KeyHash.digest c.args.cells.now.table.shared.key c.args.wanted.now c.args.point _ _ _ _ c.aim.ensures c.in-Leaf.ensures.tells in
    leaf_loaded g.L.Law.meaning g.H.KeyHash.digest c.args.cells.now.table.shared.key c.args.wanted.now c.args.point _ _ _ _ loads

pub unlock-requires-clause-own : goal.unlock-requires-clause-own
unlock-requires-clause-own g c = elim c.match-load_place.branch [
  | in-Empty w ↦ subst (λ pass. IsPassIn c.args.cells.now pass) (sym w.pass-is) w.publish_place.ensures.own
  | in-Node w ↦ subst (λ pass. IsPassIn c.args.cells.now pass) (sym w.pass-is) c.load_place.ensures.own
  | in-Leaf+in-Holder w ↦ subst (λ pass. IsPassIn c.args.cells.now pass) (sym w.pass-is) w.meet.ensures.own
  | in-Leaf+in-Other w ↦ subst (λ pass. IsPassIn c.args.cells.now pass) (sym w.pass-is) w.meet.ensures.own
  | in-Mark w ↦ subst (λ pass. IsPassIn c.args.cells.now pass) (sym w.pass-is) c.load_place.ensures.own
]

pub unlock-requires-clause-only : goal.unlock-requires-clause-only
unlock-requires-clause-only g c =
    let ready = ready_now g.L.Law.meaning g.H.KeyHash.digest c.args.cells.now.table.shared.key c.args.wanted.now c.args.point _ _ _ _ _ c.requires.can
    (none_marked c.requires.own c.requires.can.locks) c.requires.at c.lock.ensures c.store_key.ensures.next c.store_key.ensures.stores (c.lock_hung.ensures.gets c.if-not-lock_hung.false) in
    elim c.match-load_place.branch [
      | in-Empty w ↦ only_lock ready _ _ _ _ (λ i. (w.pass-is i).seat.me) c.lock-2.ensures
          (came_empty ready c.aim.ensures _ w.in-Empty.ensures.tells _ _ w.aim-in-Empty.ensures _ _ w.store_note.ensures.next _ w.publish_place.ensures.published)
      | in-Node w ↦ only_lock ready _ _ _ _ (λ i. (w.pass-is i).seat.me) c.lock-2.ensures (came_node ready c.aim.ensures _ _ w.in-Node.ensures.tells)
      | in-Leaf+in-Holder w ↦ only_lock ready _ _ _ _ (λ i. (w.pass-is i).seat.me) c.lock-2.ensures
          (came_holder ready c.aim.ensures _ _ _ _ w.in-Leaf.ensures.tells w.meet.ensures.compares _ w.in-Holder.ensures.met)
      | in-Leaf+in-Other w ↦ only_lock ready _ _ _ _ (λ i. (w.pass-is i).seat.me) c.lock-2.ensures
          (came_other ready c.aim.ensures _ _ _ _ w.in-Leaf.ensures.tells w.meet.ensures.compares _ w.in-Other.ensures.met)
      | in-Mark w ↦ only_lock ready _ _ _ _ (λ i. (w.pass-is i).seat.me) c.lock-2.ensures (came_mark ready c.aim.ensures _ w.in-Mark.ensures.tells)
    ]

pub unlock-requires-clause-unmarked : goal.unlock-requires-clause-unmarked
unlock-requires-clause-unmarked g c =
    let ready = ready_now g.L.Law.meaning g.H.KeyHash.digest c.args.cells.now.table.shared.key c.args.wanted.now c.args.point _ _ _ _ _ c.requires.can
    (none_marked c.requires.own c.requires.can.locks) c.requires.at c.lock.ensures c.store_key.ensures.next c.store_key.ensures.stores (c.lock_hung.ensures.gets c.if-not-lock_hung.false) in
    elim c.match-load_place.branch [
      | in-Empty w ↦ still_unmarked ready _ _ _ (λ i. (w.pass-is i).seat.me)
          (came_empty ready c.aim.ensures _ w.in-Empty.ensures.tells _ _ w.aim-in-Empty.ensures _ _ w.store_note.ensures.next _ w.publish_place.ensures.published)
      | in-Node w ↦ still_unmarked ready _ _ _ (λ i. (w.pass-is i).seat.me) (came_node ready c.aim.ensures _ _ w.in-Node.ensures.tells)
      | in-Leaf+in-Holder w ↦ still_unmarked ready _ _ _ (λ i. (w.pass-is i).seat.me)
          (came_holder ready c.aim.ensures _ _ _ _ w.in-Leaf.ensures.tells w.meet.ensures.compares _ w.in-Holder.ensures.met)
      | in-Leaf+in-Other w ↦ still_unmarked ready _ _ _ (λ i. (w.pass-is i).seat.me) (came_other ready c.aim.ensures _ _ _ _ w.in-Leaf.ensures.tells w.meet.ensures.compares _ w.in-Other.ensures.met)
      | in-Mark w ↦ still_unmarked ready _ _ _ (λ i. (w.pass-is i).seat.me) (came_mark ready c.aim.ensures _ w.in-Mark.ensures.tells)
    ]

pub returns-clause-steps : goal.returns-clause-steps
returns-clause-steps g c =
    let ready = ready_now g.L.Law.meaning g.H.KeyHash.digest c.args.cells.now.table.shared.key c.args.wanted.now c.args.point _ _ _ _ _ c.requires.can
    (none_marked c.requires.own c.requires.can.locks) c.requires.at c.lock.ensures c.store_key.ensures.next c.store_key.ensures.stores (c.lock_hung.ensures.gets c.if-not-lock_hung.false) in
    elim c.match-load_place.branch [
      | in-Empty w ↦ freed_so ready _ _ _ _ _ w.step-is (λ i. (w.pass-is i).seat.me) c.unlock.ensures.frees
          (came_empty ready c.aim.ensures _ w.in-Empty.ensures.tells _ _ w.aim-in-Empty.ensures _ _ w.store_note.ensures.next _ w.publish_place.ensures.published)
      | in-Node w ↦ freed_so ready _ _ _ _ _ w.step-is (λ i. (w.pass-is i).seat.me) c.unlock.ensures.frees (came_node ready c.aim.ensures _ _ w.in-Node.ensures.tells)
      | in-Leaf+in-Holder w ↦ freed_so ready _ _ _ _ _ w.step-is (λ i. (w.pass-is i).seat.me) c.unlock.ensures.frees
          (came_holder ready c.aim.ensures _ _ _ _ w.in-Leaf.ensures.tells w.meet.ensures.compares _ w.in-Holder.ensures.met)
      | in-Leaf+in-Other w ↦ freed_so ready _ _ _ _ _ w.step-is (λ i. (w.pass-is i).seat.me) c.unlock.ensures.frees
          (came_other ready c.aim.ensures _ _ _ _ w.in-Leaf.ensures.tells w.meet.ensures.compares _ w.in-Other.ensures.met)
      | in-Mark w ↦ freed_so ready _ _ _ _ _ w.step-is (λ i. (w.pass-is i).seat.me) c.unlock.ensures.frees (came_mark ready c.aim.ensures _ w.in-Mark.ensures.tells)
    ]

pub returns-clause-loads : goal.returns-clause-loads
returns-clause-loads g c =
    let stored = by_pools c.args.pass.now.seat.me c.store_key.new.pass.seat.me _ c.store_key.ensures.next in
    let locked = by_trie c.store_key.new.pass.seat.me c.lock_hung.new.pass.seat.me _ (c.lock_hung.ensures.gets c.if-not-lock_hung.false) refl in
    let freed = ap (λ me. me.0.trie.places) c.unlock.ensures.frees in
    elim c.match-load_place.branch [
      | in-Empty w ↦
          let load = by_load g.L.Law.meaning g.H.KeyHash.digest c.args.cells.now.table.shared.key c.args.wanted.now c.args.point _ c.aim.ensures _ _ _ w.in-Empty.ensures.tells in
          let noted = ap (λ me. me.0.trie.places) w.store_note.ensures.next in
          let put = by_store g.L.Law.meaning g.H.KeyHash.digest c.args.cells.now.table.shared.key c.args.wanted.now c.args.point _ w.aim-in-Empty.ensures _ _ _ w.publish_place.ensures.published in
          let same = ap (λ pass. pass.seat.me.0.trie.places) w.pass-is in
          omega (arith, stored, locked, freed, load, noted, put, same)
      | in-Node w ↦
          let load = by_load g.L.Law.meaning g.H.KeyHash.digest c.args.cells.now.table.shared.key c.args.wanted.now c.args.point _ c.aim.ensures _ _ _ w.in-Node.ensures.tells in
          let same = ap (λ pass. pass.seat.me.0.trie.places) w.pass-is in
          omega (arith, stored, locked, freed, load, same)
      | in-Leaf+in-Holder w ↦
          let load = by_load g.L.Law.meaning g.H.KeyHash.digest c.args.cells.now.table.shared.key c.args.wanted.now c.args.point _ c.aim.ensures _ _ _ w.in-Leaf.ensures.tells in
          let words = by_words _ _ _ w.meet.ensures.compares in
          let same = ap (λ pass. pass.seat.me.0.trie.places) w.pass-is in
          omega (arith, stored, locked, freed, load, words, same)
      | in-Leaf+in-Other w ↦
          let load = by_load g.L.Law.meaning g.H.KeyHash.digest c.args.cells.now.table.shared.key c.args.wanted.now c.args.point _ c.aim.ensures _ _ _ w.in-Leaf.ensures.tells in
          let words = by_words _ _ _ w.meet.ensures.compares in
          let same = ap (λ pass. pass.seat.me.0.trie.places) w.pass-is in
          omega (arith, stored, locked, freed, load, words, same)
      | in-Mark w ↦
          let load = by_load g.L.Law.meaning g.H.KeyHash.digest c.args.cells.now.table.shared.key c.args.wanted.now c.args.point _ c.aim.ensures _ _ _ w.in-Mark.ensures.tells in
          let same = ap (λ pass. pass.seat.me.0.trie.places) w.pass-is in
          omega (arith, stored, locked, freed, load, same)
    ]

pub returns-then-not-lock_hung-clause-steps : goal.returns-then-not-lock_hung-clause-steps
returns-then-not-lock_hung-clause-steps g c =
    left_anew g.L.Law.meaning g.H.KeyHash.digest c.args.cells.now.table.shared.key c.args.wanted.now c.args.point _ _ _ _ c.store_key.ensures.next (c.lock_hung.ensures.same c.if-not-lock_hung.true)

pub returns-then-not-lock_hung-clause-loads : goal.returns-then-not-lock_hung-clause-loads
returns-then-not-lock_hung-clause-loads g c =
    let stored = by_pools c.args.pass.now.seat.me c.store_key.new.pass.seat.me _ c.store_key.ensures.next in
    let same = ap (λ me. me.0.trie.places) (c.lock_hung.ensures.same c.if-not-lock_hung.true) in
    omega (arith, stored, same)
