use Rattle.std.{proofs.Common.{rules, ◌≡◌, ℕ, ◌+◌, ◌≤◌, length, sym, ap, ◌∙◌, subst, arith}, specs.Prelude.Contains}
use Rattle.npf_paths.specs.Digits.{PartsAt, digit_of}
use Rattle.npf_cells_holds.specs.PublishKinds.{IsParentStored}
use Rattle.npf_trie.proofs.ForkLemmas.{first_in, rest_new, foot_built, above_built, keeps_foot, keeps_above, foot_named, above_named}
use Rattle.npf_trie.proofs.StoreLemmas.{parent_next, parent_nodes, parent_there, parent_outside, stored_more}
use Rattle.npf_trie.proofs.branch.+build_branch.Goals as goal

pub store_private-requires-clause-place : goal.store_private-requires-clause-place
store_private-requires-clause-place g t c =
    c.requires.nodes.exist c.in-Some.node.now (first_in c.args.cells.now.table.shared.key c.args.nodes.now c.in-Some.node.now c.in-Some.rest.now c.in-Some.ensures.cases.0)

pub store_private-requires-clause-may : goal.store_private-requires-clause-may
store_private-requires-clause-may g t c = record {
  owned = c.requires.nodes.owned c.in-Some.node.now
      (first_in c.args.cells.now.table.shared.key c.args.nodes.now c.in-Some.node.now c.in-Some.rest.now c.in-Some.ensures.cases.0);
  stateless = omega arith;
  markless = λ low. absurd (omega (arith, low));
}

pub fill_node-requires-clause-exists : goal.fill_node-requires-clause-exists
fill_node-requires-clause-exists g t c =
    c.requires.nodes.exist c.in-Some.node.now (first_in c.args.cells.now.table.shared.key c.args.nodes.now c.in-Some.node.now c.in-Some.rest.now c.in-Some.ensures.cases.0)

pub fill_node-requires-else-is_empty-clause-exists : goal.fill_node-requires-else-is_empty-clause-exists
fill_node-requires-else-is_empty-clause-exists g t c =
    c.requires.nodes.exist c.in-Some.node.now (first_in c.args.cells.now.table.shared.key c.args.nodes.now c.in-Some.node.now c.in-Some.rest.now c.in-Some.ensures.cases.0)

pub fill_node-requires-clause-owned : goal.fill_node-requires-clause-owned
fill_node-requires-clause-owned g t c =
    subst (λ ns. Contains ns c.in-Some.node.now)
    (sym (parent_nodes c.args.cells.now.table.shared.key c.in-Some.node.now _ c.args.pass.now.seat.me c.store_private.new.pass.seat.me c.store_private.ensures.next))
    (c.requires.nodes.owned c.in-Some.node.now (first_in c.args.cells.now.table.shared.key c.args.nodes.now c.in-Some.node.now c.in-Some.rest.now c.in-Some.ensures.cases.0))

pub fill_node-requires-else-is_empty-clause-owned : goal.fill_node-requires-else-is_empty-clause-owned
fill_node-requires-else-is_empty-clause-owned g t c =
    subst (λ y. Contains y.0.pools.nodes c.in-Some.node.now) (sym c.build_branch.ensures.next)
    (subst (λ ns. Contains ns c.in-Some.node.now)
    (sym (parent_nodes c.args.cells.now.table.shared.key c.in-Some.node.now _ c.args.pass.now.seat.me c.store_private.new.pass.seat.me c.store_private.ensures.next))
    (c.requires.nodes.owned c.in-Some.node.now (first_in c.args.cells.now.table.shared.key c.args.nodes.now c.in-Some.node.now c.in-Some.rest.now c.in-Some.ensures.cases.0)))

pub build_branch-requires : goal.build_branch-requires
build_branch-requires g t c κs within =
    let deeper : c.args.point.level + length c.args.nodes.now ≡ c.args.point.level + 1 + length c.in-Some.rest.now = omega (arith, c.in-Some.ensures.cases.1) in
    let some : 1 ≤ length c.in-Some.rest.now = search rules in
    let new = subst (λ ns. (node : ℕ) → Contains c.args.nodes.now node →
    Contains ns node)
    (sym (parent_nodes c.args.cells.now.table.shared.key c.in-Some.node.now _ c.args.pass.now.seat.me c.store_private.new.pass.seat.me c.store_private.ensures.next)) c.requires.nodes.owned in (
      search rules,
      (
        search rules,
        (
          search rules,
          (
            search rules,
            (
              search rules,
              (
                search rules,
                (
                  c.store_private.ensures.own,
                  (
                    some,
                    (
                      rest_new c.args.cells.now.table.shared.key c.args.nodes.now c.in-Some.node.now c.in-Some.rest.now c.in-Some.ensures.cases.0 c.store_private.new.pass.seat.me.0.pools
                          (record { exist = c.requires.nodes.exist; owned = new; apart = c.requires.nodes.apart }),
                      (
                        c.requires.mine,
                        (
                          c.requires.theirs,
                          (
                            c.requires.real,
                            (c.requires.their_real, subst (λ l. PartsAt c.args.mine.now.hash c.args.mine.now.key c.args.theirs.now.hash c.args.theirs.now.key l) deeper c.requires.parts),
                          ),
                        ),
                      ),
                    ),
                  ),
                ),
              ),
            ),
          ),
        ),
      ),
    )

pub returns-then-is_empty-clause-next : goal.returns-then-is_empty-clause-next
returns-then-is_empty-clause-next g t c = stored_more c.args.pass.now.seat.me c.store_private.new.pass.seat.me _ _
    (parent_next c.args.cells.now.table.shared.key c.in-Some.node.now _ c.args.pass.now.seat.me c.store_private.new.pass.seat.me c.store_private.ensures.next) c.fill_node.ensures.next

pub returns-then-is_empty-clause-branch : goal.returns-then-is_empty-clause-branch
returns-then-is_empty-clause-branch g t c =
    let none : length c.in-Some.rest.now ≡ 0 = search rules in
    foot_built c.args.cells.now.table.shared.key c.args.nodes.now c.in-Some.node.now c.in-Some.rest.now c.in-Some.ensures.cases.0 g.H.KeyHash.digest
    c.args.mine.now.key c.args.theirs.now.key c.args.mine.now.hash c.args.theirs.now.hash c.args.point.level
    c.requires.mine c.requires.theirs c.requires.parts _ c.args.mine.now.leaf c.args.theirs.now.leaf c.digit-at.result
    c.digit-other_at.result c.digit-at.ensures.value c.digit-other_at.ensures.value none c.fill_node.ensures.cells

pub returns-then-is_empty-clause-parents : goal.returns-then-is_empty-clause-parents
returns-then-is_empty-clause-parents g t c =
    let none : length c.in-Some.rest.now ≡ 0 = search rules in
    foot_named c.args.cells.now.table.shared.key c.args.nodes.now c.in-Some.node.now c.in-Some.rest.now c.in-Some.ensures.cases.0 _ _ _ c.store_private.new.pass.seat.me.0.pools.stored _ none
    (subst (λ code. IsParentStored c.args.cells.now.table.shared.key c.store_private.new.pass.seat.me.0.pools.stored c.in-Some.node.now code) c.place_code.ensures
    (parent_there c.args.cells.now.table.shared.key c.in-Some.node.now _ c.args.pass.now.seat.me c.store_private.new.pass.seat.me c.store_private.ensures.next)) c.fill_node.ensures.outside

pub returns-then-is_empty-clause-outside : goal.returns-then-is_empty-clause-outside
returns-then-is_empty-clause-outside g t c =
    keeps_foot c.args.cells.now.table.shared.key c.args.nodes.now c.in-Some.node.now c.in-Some.rest.now c.in-Some.ensures.cases.0 _ c.store_private.new.pass.seat.me.0.pools.stored _
    (parent_outside c.args.cells.now.table.shared.key c.in-Some.node.now _ c.args.pass.now.seat.me c.store_private.new.pass.seat.me c.store_private.ensures.next) c.fill_node.ensures.outside

pub returns-else-is_empty-clause-next : goal.returns-else-is_empty-clause-next
returns-else-is_empty-clause-next g t c =
    stored_more c.args.pass.now.seat.me c.build_branch.new.pass.seat.me _ _ (stored_more c.args.pass.now.seat.me c.store_private.new.pass.seat.me _ _
    (parent_next c.args.cells.now.table.shared.key c.in-Some.node.now _ c.args.pass.now.seat.me c.store_private.new.pass.seat.me c.store_private.ensures.next) c.build_branch.ensures.next)
    c.fill_node-else-is_empty.ensures.next

pub returns-else-is_empty-clause-branch : goal.returns-else-is_empty-clause-branch
returns-else-is_empty-clause-branch g t c =
    let some : 1 ≤ length c.in-Some.rest.now = search rules in
    above_built c.args.cells.now.table.shared.key c.args.nodes.now c.in-Some.node.now c.in-Some.rest.now c.in-Some.ensures.cases.0 g.H.KeyHash.digest
    c.args.mine.now.key c.args.theirs.now.key c.args.mine.now.hash c.args.theirs.now.hash c.args.point.level
    c.requires.mine c.requires.theirs c.requires.parts _ _ c.args.mine.now.leaf c.args.theirs.now.leaf c.digit-at.result
    c.digit-at.ensures.value some c.requires.nodes.apart c.fill_node-else-is_empty.ensures.cells
    c.fill_node-else-is_empty.ensures.outside c.build_branch.ensures.branch

pub returns-else-is_empty-clause-parents : goal.returns-else-is_empty-clause-parents
returns-else-is_empty-clause-parents g t c =
    let at = c.digit-at.ensures.value ∙ ap (λ hash. digit_of hash c.args.mine.now.key (c.args.point.level + 1)) c.requires.mine in
    above_named c.args.cells.now.table.shared.key c.args.nodes.now c.in-Some.node.now c.in-Some.rest.now c.in-Some.ensures.cases.0 _ _ c.digit-at.result
    _ c.store_private.new.pass.seat.me.0.pools.stored _ _ c.requires.nodes.apart at
    (subst (λ code. IsParentStored c.args.cells.now.table.shared.key c.store_private.new.pass.seat.me.0.pools.stored c.in-Some.node.now code) c.place_code.ensures
    (parent_there c.args.cells.now.table.shared.key c.in-Some.node.now _ c.args.pass.now.seat.me c.store_private.new.pass.seat.me c.store_private.ensures.next))
    c.build_branch.ensures.outside c.fill_node-else-is_empty.ensures.outside c.build_branch.ensures.parents

pub returns-else-is_empty-clause-outside : goal.returns-else-is_empty-clause-outside
returns-else-is_empty-clause-outside g t c =
    keeps_above c.args.cells.now.table.shared.key c.args.nodes.now c.in-Some.node.now c.in-Some.rest.now c.in-Some.ensures.cases.0 _ c.store_private.new.pass.seat.me.0.pools.stored _ _
    (parent_outside c.args.cells.now.table.shared.key c.in-Some.node.now _ c.args.pass.now.seat.me c.store_private.new.pass.seat.me c.store_private.ensures.next)
    c.build_branch.ensures.outside c.fill_node-else-is_empty.ensures.outside
