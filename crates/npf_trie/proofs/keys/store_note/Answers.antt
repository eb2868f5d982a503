use Rattle.std.proofs.Common.{inl, inr, arith}
use Rattle.npf_cells_words.proofs.WordLemmas.{note_soon}
use Rattle.npf_trie.proofs.StoreLemmas.{note_stored}
use Rattle.npf_trie.proofs.keys.store_note.Goals as goal

pub store_private-requires-clause-field : goal.store_private-requires-clause-field
store_private-requires-clause-field g c = let soon = note_soon c.args.way in omega (arith, soon, c.note_field.ensures)

pub store_private-requires-clause-may : goal.store_private-requires-clause-may
store_private-requires-clause-may g c =
    inr (inr (inl (record {
      id = c.requires.may.id;
      built = c.requires.may.hold.built;
      there = c.requires.may.there;
      way = c.args.way;
      note = c.note_field.ensures;
      bare = c.requires.may.hold.bare;
      low = c.requires.low;
    })))

pub returns-clause-next : goal.returns-clause-next
returns-clause-next g c = note_stored _ _ c.args.slot _ c.args.value c.args.way c.note_field.ensures c.requires.low c.store_private.ensures.next
