use Rattle.std.proofs.Common.{ap, ◌∙◌}
use Rattle.npf_types.specs.declared.key.Way.TheVariants.{Port}
use Rattle.npf_cells_rule.specs.Views.{DeadHand}
use Rattle.npf_cells_leaves.specs.declared.trie.TrieSide.{TrieSide}
use Rattle.npf_trie_tests.proofs.{BuildLemmas.{can_hold_forward, can_hold_backward, is_built, protected_on}, OpenLemmas.{port_bared, may_bare, begun_on}}
use Rattle.npf_trie_tests.proofs.building.build.Goals as goal

pub store_private-requires-clause-may : goal.store_private-requires-clause-may
store_private-requires-clause-may g c = may_bare _ _ c.in_ok-id.id Port _ _ c.in_ok-id.ensures.begun c.note_field.ensures

pub hold-requires-clause-can : goal.hold-requires-clause-can
hold-requires-clause-can g c =
    let stores = port_bared c.in_ok-id.id _ _ _ c.note_field.ensures c.store_private.ensures.next in
    can_hold_forward _ _ c.in_ok-id.id _ _ stores (begun_on _ _ c.in_ok-id.id Port _ _ stores c.in_ok-id.ensures.begun)
    (c.in_ok-id.ensures.keeps.nodes ∙ c.requires.empty.nodes)
    (ap (λ (hand : DeadHand). hand.unfreed) c.in_ok-id.ensures.keeps.dead ∙ c.requires.empty.unfreed)
    (ap (λ (side : TrieSide). side.locks) c.in_ok-id.ensures.keeps.trie ∙ c.requires.empty.locks)
    (c.in_ok-id.ensures.keeps.turn ∙ c.requires.empty.turn)

pub hold-requires-2-clause-can : goal.hold-requires-2-clause-can
hold-requires-2-clause-can g c =
    let stores = port_bared c.in_ok-id.id _ _ _ c.note_field.ensures c.store_private.ensures.next in
    can_hold_backward _ _ c.in_ok-id.id _ _ _ _ stores (begun_on _ _ c.in_ok-id.id Port _ _ stores c.in_ok-id.ensures.begun)
    (protected_on c.in_ok-id.id _ _ _ stores c.in_ok-id.ensures.keeps.epochs c.requires.empty.protected) c.in-Done.ensures.answers
    (c.in_ok-id.ensures.keeps.nodes ∙ c.requires.empty.nodes)
    (ap (λ (hand : DeadHand). hand.unfreed) c.in_ok-id.ensures.keeps.dead ∙ c.requires.empty.unfreed)
    (ap (λ (side : TrieSide). side.locks) c.in_ok-id.ensures.keeps.trie ∙ c.requires.empty.locks)
    (c.in_ok-id.ensures.keeps.turn ∙ c.requires.empty.turn)

pub returns-clause-built : goal.returns-clause-built
returns-clause-built g c =
    let stores = port_bared c.in_ok-id.id _ _ _ c.note_field.ensures c.store_private.ensures.next in
    is_built _ _ c.in_ok-id.id _ _ _ _ stores (begun_on _ _ c.in_ok-id.id Port _ _ stores c.in_ok-id.ensures.begun)
    (protected_on c.in_ok-id.id _ _ _ stores c.in_ok-id.ensures.keeps.epochs c.requires.empty.protected) c.in-Done.ensures.answers _ _ c.in-Done-hold.ensures.answers
