use Rattle.std.proofs.Common.{inl, inr, arith}
use Rattle.npf_cells_words.proofs.WordLemmas.{note_soon}
use Rattle.npf_conndb.proofs.BeginLemmas.{note_cleared}
use Rattle.npf_conndb.proofs.begin.clear_note.Goals as goal

pub store_private-requires-clause-field : goal.store_private-requires-clause-field
store_private-requires-clause-field g c = let soon = note_soon c.args.way in omega (arith, soon, c.note_field.ensures)

pub store_private-requires-clause-may : goal.store_private-requires-clause-may
store_private-requires-clause-may g c =
    let bare = c.requires.bare in
    inr (inr (inl (record { id = bare.id; built = bare.built; there = bare.there; way = c.args.way; note = c.note_field.ensures; bare = bare.bare; low = omega arith })))

pub returns-clause-next : goal.returns-clause-next
returns-clause-next g c = note_cleared c.args.slot _ c.args.way _ _ c.note_field.ensures c.store_private.ensures.next
