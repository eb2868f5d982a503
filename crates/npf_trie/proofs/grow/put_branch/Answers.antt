use Rattle.std.proofs.Common.{◌∙◌, ap, refl, arith}
use Rattle.npf_cells_takes.specs.PrivateKinds.{leading}
use Rattle.npf_cells_words.specs.Layout.{note_field}
use Rattle.npf_trie.proofs.{CountLemmas.by_store, HangLemmas.{may_note_own, may_lead, may_hang, hangs_done}}
use Rattle.npf_trie.proofs.grow.put_branch.Goals as goal

pub store_note-requires-clause-may : goal.store_note-requires-clause-may
store_note-requires-clause-may g c = may_note_own g.L.Law.meaning g.H.KeyHash.digest c.args.cells.now.table.shared.key c.args.wanted.now c.args.point
    c.args.branch.now c.args.pass.now.seat.me c.requires.grown c.requires.turn c.requires.sees _ _ c.leaf_note-own_place.ensures.is refl

pub note_ahead-requires-clause-may : goal.note_ahead-requires-clause-may
note_ahead-requires-clause-may g c = may_lead g.L.Law.meaning g.H.KeyHash.digest c.args.cells.now.table.shared.key c.args.wanted.now c.args.point
    c.args.branch.now _ c.requires.grown c.requires.turn c.requires.sees _ _ c.leaf_note-own_place.ensures.is
    c.leaf_note-moved_to.ensures.is _ c.store_note.ensures.next c.leaf_note-moved_to.ensures.low

pub publish_place-requires-clause-may : goal.publish_place-requires-clause-may
publish_place-requires-clause-may g c = may_hang g.L.Law.meaning g.H.KeyHash.digest c.args.cells.now.table.shared.key c.args.wanted.now c.args.point c.args.branch.now
    _ c.requires.grown c.requires.turn c.requires.sees _ _ c.leaf_note-own_place.ensures.is c.leaf_note-moved_to.ensures.is _ (c.note_ahead.ensures.next
    ∙ ap (leading (note_field c.args.branch.now.other.way) c.leaf_note-moved_to.result) c.store_note.ensures.next) _ c.aim.ensures

pub returns-clause-hung : goal.returns-clause-hung
returns-clause-hung g c = hangs_done g.L.Law.meaning g.H.KeyHash.digest c.args.cells.now.table.shared.key c.args.wanted.now c.args.point c.args.branch.now
    _ c.requires.grown c.requires.turn c.requires.sees _ _ c.leaf_note-own_place.ensures.is c.leaf_note-moved_to.ensures.is _ (c.note_ahead.ensures.next
    ∙ ap (leading (note_field c.args.branch.now.other.way) c.leaf_note-moved_to.result) c.store_note.ensures.next) _ _ c.aim.ensures c.publish_place.ensures.published

pub returns-clause-loads : goal.returns-clause-loads
returns-clause-loads g c =
    let noted = ap (λ me. me.0.trie.places) c.store_note.ensures.next in
    let led = ap (λ me. me.0.trie.places) c.note_ahead.ensures.next in
    let put = by_store g.L.Law.meaning g.H.KeyHash.digest c.args.cells.now.table.shared.key c.args.wanted.now c.args.point _ c.aim.ensures _ _ _ c.publish_place.ensures.published in
    omega (arith, noted, led, put)
