use Rattle.std.{proofs.Common.{◌≡◌, ℕ, ap, ◌∙◌, sym, subst, List}, specs.Prelude.Contains}
use Rattle.npf_types.specs.declared.key.Way.TheVariants.{Forward, Backward, Port}
use Rattle.npf_core.specs.declared.conn_id.ConnId.{ConnId}
use Rattle.npf_cells_rule.specs.Views.{DeadHand}
use Rattle.npf_cells_leaves.specs.declared.trie.TrieSide.{TrieSide}
use Rattle.npf_cells_words.specs.declared.layout.Pool.TheVariants.{Slots}
use Rattle.npf_cells_takes.specs.PrivateKinds.{MayStore}
use Rattle.npf_trie_tests.proofs.OpenLemmas.{bared, backward_bared, port_bared, may_bare, begun_on, can_hold, bare_notes}
use Rattle.npf_trie_tests.proofs.turning.open.Goals as goal

pub store_private-requires-clause-may : goal.store_private-requires-clause-may
store_private-requires-clause-may g c = may_bare _ _ c.in_ok-id.id Backward _ _ c.in_ok-id.ensures.begun c.note_field.ensures

pub store_private-requires-2-clause-may : goal.store_private-requires-2-clause-may
store_private-requires-2-clause-may g c =
    let first = backward_bared c.in_ok-id.id _ _ _ c.note_field.ensures c.store_private.ensures.next in
    may_bare _ _ c.in_ok-id.id Port _ _ (begun_on _ _ c.in_ok-id.id Backward _ _ first c.in_ok-id.ensures.begun) c.note_field-2.ensures

pub hold-requires-clause-can : goal.hold-requires-clause-can
hold-requires-clause-can g c =
    let first = backward_bared c.in_ok-id.id _ _ _ c.note_field.ensures c.store_private.ensures.next in
    let second = port_bared c.in_ok-id.id _ _ _ c.note_field-2.ensures c.store_private-2.ensures.next in
    can_hold _ _ c.in_ok-id.id _ _ (second ∙ ap (λ me. bared c.in_ok-id.id Port me) first)
    (begun_on _ _ c.in_ok-id.id Port _ _ second (begun_on _ _ c.in_ok-id.id Backward _ _ first c.in_ok-id.ensures.begun))
    (c.in_ok-id.ensures.keeps.nodes ∙ c.requires.hands.nodes)
    (ap (λ (hand : DeadHand). hand.unfreed) c.in_ok-id.ensures.keeps.dead ∙ c.requires.hands.unfreed)
    (ap (λ (side : TrieSide). side.locks) c.in_ok-id.ensures.keeps.trie ∙ c.requires.hands.locks)
    (c.in_ok-id.ensures.keeps.turn ∙ c.requires.hands.turn)

pub start-requires-clause-builds : goal.start-requires-clause-builds
start-requires-clause-builds g c =
    let first = backward_bared c.in_ok-id.id _ _ _ c.note_field.ensures c.store_private.ensures.next in
    let second = port_bared c.in_ok-id.id _ _ _ c.note_field-2.ensures c.store_private-2.ensures.next in
    let builds = ap (λ y. y.0.pools.builds) c.in-Done.ensures.answers.settles.is ∙ ap (λ y. y.0.pools.builds) c.in-Done.ensures.answers.anew.is in
    let begun = begun_on _ _ c.in_ok-id.id Port _ _ second (begun_on _ _ c.in_ok-id.id Backward _ _ first c.in_ok-id.ensures.begun) in
    subst (λ (ids : List ConnId). Contains ids c.in_ok-id.id) (sym builds) (begun.may Forward).built

pub start-requires-clause-stored : goal.start-requires-clause-stored
start-requires-clause-stored g c =
    let first = backward_bared c.in_ok-id.id _ _ _ c.note_field.ensures c.store_private.ensures.next in
    let second = port_bared c.in_ok-id.id _ _ _ c.note_field-2.ensures c.store_private-2.ensures.next in
    let unstored = ap (λ y. y.0.pools.unstored) c.in-Done.ensures.answers.settles.is ∙ ap (λ y. y.0.pools.unstored) c.in-Done.ensures.answers.anew.is in
    let begun = begun_on _ _ c.in_ok-id.id Port _ _ second (begun_on _ _ c.in_ok-id.id Backward _ _ first c.in_ok-id.ensures.begun) in
    λ has. begun.stored (subst (λ (slots : List ℕ). Contains slots c.in_ok-id.id.slot) unstored has)

pub start-requires-clause-notes : goal.start-requires-clause-notes
start-requires-clause-notes g c =
    let first = backward_bared c.in_ok-id.id _ _ _ c.note_field.ensures c.store_private.ensures.next in
    let second = port_bared c.in_ok-id.id _ _ _ c.note_field-2.ensures c.store_private-2.ensures.next in
    bare_notes _ _ c.in_ok-id.id _ _ _ _ (second ∙ ap (λ me. bared c.in_ok-id.id Port me) first) c.in-Done.ensures.answers
