use Rattle.npf_cells_holds.specs.PublishKinds.{IsParentStored}
use Rattle.npf_cells_leaves.specs.Trie.{digits_of}
use Rattle.std.{proofs.Common.{◌+◌, ◌-◌, ap, sym, rules, arith, ◌≡◌, ◌≤◌, length, subst, ◌∙◌, refl, ◌≢◌}, specs.Prelude.{Contains, slice_index}}
use Rattle.npf_cells_rule.specs.Passes.{IsProtected}
use Rattle.npf_turn.proofs.MarkLemmas.{none_marked}
use Rattle.npf_trie.proofs.{CountLemmas.by_pools, ForkLemmas.leaf_real}
use Rattle.npf_trie.proofs.GrowLemmas.{took_so, took_more, gave_all, foot_of, parts_below, branch_so, parents_so, readies, may_still, ends_without, has_grown, owns_still, steps_done, steps_back}
use Rattle.npf_core.specs.declared.held.Held.{Held}
use Rattle.npf_trie.specs.{declared.step.Step.TheVariants.Ends, Stores.HasNewNodes}
use Rattle.npf_trie.proofs.grow.grow.Goals.{in_default-step-via-in-Ends+in_default, in_default-step-via-in_default}
use Rattle.npf_trie.proofs.grow.grow.Goals as goal

pub returns-in_default-take_nodes-clause-steps : goal.returns-in_default-take_nodes-clause-steps
returns-in_default-take_nodes-clause-steps g c =
    ends_without _ g.H.KeyHash.digest _ c.args.wanted.now c.args.point _ c.requires.can _ _ c.requires.met c.in_default-take_nodes.ensures.none

pub build_branch-requires-clause-nodes : goal.build_branch-requires-clause-nodes
build_branch-requires-clause-nodes g c =
    let takes = c.in-Some-take_nodes.ensures.takes in
    let new : HasNewNodes c.args.cells.now.table.shared.key c.take_nodes.new.pass.seat.me.0.pools c.in-Some-take_nodes.nodes.items =
    record { exist = takes.within; owned = takes.owned; apart = takes.apart } in
    subst (λ xs. HasNewNodes c.args.cells.now.table.shared.key c.take_nodes.new.pass.seat.me.0.pools xs) (sym c.as_slice.ensures.value) new

pub build_branch-requires-clause-parts : goal.build_branch-requires-clause-parts
build_branch-requires-clause-parts g c =
    parts_below _ _ _ _ _ _ c.in-Some.parting c.args.point.level _ c.in-Some.ensures.some refl refl c.if-parting-point.true
    (ap length c.as_slice.ensures.value ∙ c.in-Some-take_nodes.ensures.takes.counted)

pub build_branch-requires-clause-real : goal.build_branch-requires-clause-real
build_branch-requires-clause-real g c = leaf_real _ _ _ c.leaf.ensures

pub build_branch-requires-clause-their_real : goal.build_branch-requires-clause-their_real
build_branch-requires-clause-their_real g c = leaf_real _ _ _ c.cell.ensures

pub store_key-requires-clause-may : goal.store_key-requires-clause-may
store_key-requires-clause-may g c =
    record { id = c.args.wanted.now.id; there = refl; hold = may_still _ c.args.wanted.now _ _ _ c.requires.can.may (took_so c.in-Some-take_nodes.ensures.takes) c.build_branch.ensures.next }

pub move_leaf-step-requires-clause-protected : goal.move_leaf-step-requires-clause-protected
move_leaf-step-requires-clause-protected g c =
    let ready = readies c.args.pass.now.seat.me c.take_nodes.new.pass.seat.me c.build_branch.new.pass.seat.me c.store_key.new.pass.seat.me
    (took_so c.in-Some-take_nodes.ensures.takes) c.build_branch.ensures.next c.store_key.ensures.next in
    subst (λ me. IsProtected me.0.epochs.pin) (sym ready) c.requires.protected

pub move_leaf-step-requires-clause-turnless : goal.move_leaf-step-requires-clause-turnless
move_leaf-step-requires-clause-turnless g c =
    let ready = readies c.args.pass.now.seat.me c.take_nodes.new.pass.seat.me c.build_branch.new.pass.seat.me c.store_key.new.pass.seat.me
    (took_so c.in-Some-take_nodes.ensures.takes) c.build_branch.ensures.next c.store_key.ensures.next in
    ap (λ me. me.0.turn) ready ∙ c.requires.can.turnless

pub move_leaf-step-requires-clause-free : goal.move_leaf-step-requires-clause-free
move_leaf-step-requires-clause-free g c =
    let ready = readies c.args.pass.now.seat.me c.take_nodes.new.pass.seat.me c.build_branch.new.pass.seat.me c.store_key.new.pass.seat.me
    (took_so c.in-Some-take_nodes.ensures.takes) c.build_branch.ensures.next c.store_key.ensures.next in
    ap (λ me. me.0.trie.locks) ready ∙ c.requires.can.locks

pub move_leaf-step-requires-clause-grown : goal.move_leaf-step-requires-clause-grown
move_leaf-step-requires-clause-grown g c =
    let ready = readies c.args.pass.now.seat.me c.take_nodes.new.pass.seat.me c.build_branch.new.pass.seat.me c.store_key.new.pass.seat.me
    (took_so c.in-Some-take_nodes.ensures.takes) c.build_branch.ensures.next c.store_key.ensures.next in
    let leads = branch_so _ _ _ _ _ _ _ _ _ _ c.leaf.ensures c.cell.ensures c.as_slice.ensures.value c.build_branch.ensures.branch in
    let parents = parents_so (digits_of g.H.KeyHash.digest c.args.wanted.now.key) (IsParentStored c.args.cells.now.table.shared.key c.build_branch.new.pass.seat.me.0.pools.stored)
    (c.args.point.level + 1) c.args.point.place _ _ c.as_slice.ensures.value c.build_branch.ensures.parents in
    let counted = c.in-Some-take_nodes.ensures.takes.counted in
    let some : 1 ≤ length c.in-Some-take_nodes.nodes.items = omega (arith, counted, c.if-parting-point.true) in
    let at_last = ap (λ xs. slice_index xs (c.in-Some.parting - c.args.point.level - 1)) c.deref.ensures.0 in
    let own = foot_of g.H.KeyHash.digest _ c.args.wanted.now.key c.args.point.level c.in-Some.parting c.args.point.place
    c.in-Some-take_nodes.nodes.items _ _ c.requires.hashed c.if-parting-point.true counted at_last c.place_in.ensures in
    let moved = foot_of g.H.KeyHash.digest _ c.args.other.now.key c.args.point.level c.in-Some.parting c.args.point.place
    c.in-Some-take_nodes.nodes.items _ _ c.hash.ensures c.if-parting-point.true counted at_last c.place_in-2.ensures in
    rw c.deref-2.ensures.0 (has_grown _ _ _ _ _ _ c.requires.can (record {
      other = c.args.other.now;
      first = slice_index c.in-Some-take_nodes.nodes.items 0;
      own_place = c.place_in.result;
      moved_to = c.place_in-2.result;
    }) _ _ _ _ _ _ c.requires.at c.in-Some-take_nodes.ensures.takes ready
    c.store_key.ensures.stores c.store_key.ensures.keeps leads parents some own moved (none_marked c.requires.own c.requires.can.locks))

pub give_all-requires-clause-owned : goal.give_all-requires-clause-owned
give_all-requires-clause-owned g c =
    let ready = readies c.args.pass.now.seat.me c.take_nodes.new.pass.seat.me c.build_branch.new.pass.seat.me c.store_key.new.pass.seat.me
    (took_so c.in-Some-take_nodes.ensures.takes) c.build_branch.ensures.next c.store_key.ensures.next in
    let differs : c.move_leaf-step.result ≢ Ends Held.Done = elim c.in_default-step.branch [
      | in_default-step-via-in-Ends+in_default w ↦ λ e. search rules
      | in_default-step-via-in_default w ↦ λ e. search rules
    ] in
    let nodes = owns_still _ g.H.KeyHash.digest _ c.args.wanted.now c.args.point _ c.requires.can c.take_nodes.new.pass.seat.me.0.pools _ _ _ ready
    (took_more c.in-Some-take_nodes.ensures.takes) c.move_leaf-step.result differs c.move_leaf-step.ensures.hangs in
    λ node has. subst (λ xs. Contains xs node) (sym nodes) (c.in-Some-take_nodes.ensures.takes.owned node has)

pub returns-in-Ends-Done-clause-steps : goal.returns-in-Ends-Done-clause-steps
returns-in-Ends-Done-clause-steps g c =
    let ready = readies c.args.pass.now.seat.me c.take_nodes.new.pass.seat.me c.build_branch.new.pass.seat.me c.store_key.new.pass.seat.me
    (took_so c.in-Some-take_nodes.ensures.takes) c.build_branch.ensures.next c.store_key.ensures.next in
    let is : c.move_leaf-step.result ≡ Ends Held.Done = search rules in
    steps_done _ _ _ c.args.wanted.now c.args.point _ c.requires.can c.take_nodes.new.pass.seat.me.0.pools _ _ _ ready
    (took_more c.in-Some-take_nodes.ensures.takes) c.move_leaf-step.result is c.move_leaf-step.ensures.hangs

pub returns-in_default-step-clause-steps : goal.returns-in_default-step-clause-steps
returns-in_default-step-clause-steps g c =
    let ready = readies c.args.pass.now.seat.me c.take_nodes.new.pass.seat.me c.build_branch.new.pass.seat.me c.store_key.new.pass.seat.me
    (took_so c.in-Some-take_nodes.ensures.takes) c.build_branch.ensures.next c.store_key.ensures.next in
    let differs : c.move_leaf-step.result ≢ Ends Held.Done = elim c.in_default-step.branch [
      | in_default-step-via-in-Ends+in_default w ↦ λ e. search rules
      | in_default-step-via-in_default w ↦ λ e. search rules
    ] in
    steps_back _ _ _ c.args.wanted.now c.args.point _ c.requires.can c.take_nodes.new.pass.seat.me.0.pools _ _ _ ready (took_more c.in-Some-take_nodes.ensures.takes) _ _ _
    (gave_all c.move_leaf-step.new.pass.seat.me c.give_all.new.pass.seat.me c.give_all.ensures.next) c.move_leaf-step.result differs c.move_leaf-step.ensures.hangs

pub returns-in_default-take_nodes-clause-loads : goal.returns-in_default-take_nodes-clause-loads
returns-in_default-take_nodes-clause-loads g c = let same = by_pools c.args.pass.now.seat.me c.take_nodes.new.pass.seat.me _ c.in_default-take_nodes.ensures.none.is in omega (arith, same)

pub returns-in-Ends-Done-clause-loads : goal.returns-in-Ends-Done-clause-loads
returns-in-Ends-Done-clause-loads g c =
    let took = by_pools c.args.pass.now.seat.me c.take_nodes.new.pass.seat.me _ c.in-Some-take_nodes.ensures.takes.is in
    let built = by_pools c.take_nodes.new.pass.seat.me c.build_branch.new.pass.seat.me _ c.build_branch.ensures.next in
    let filled = by_pools c.build_branch.new.pass.seat.me c.store_key.new.pass.seat.me _ c.store_key.ensures.next in
    let moved = c.move_leaf-step.ensures.loads in
    omega (arith, took, built, filled, moved)

pub returns-in_default-step-clause-loads : goal.returns-in_default-step-clause-loads
returns-in_default-step-clause-loads g c =
    let took = by_pools c.args.pass.now.seat.me c.take_nodes.new.pass.seat.me _ c.in-Some-take_nodes.ensures.takes.is in
    let built = by_pools c.take_nodes.new.pass.seat.me c.build_branch.new.pass.seat.me _ c.build_branch.ensures.next in
    let filled = by_pools c.build_branch.new.pass.seat.me c.store_key.new.pass.seat.me _ c.store_key.ensures.next in
    let moved = c.move_leaf-step.ensures.loads in
    let gave = by_pools c.move_leaf-step.new.pass.seat.me c.give_all.new.pass.seat.me _ c.give_all.ensures.next in
    omega (arith, took, built, filled, moved, gave)
