-- The part on notes stays where the words behind the pools' do.
use Rattle.std.proofs.Common.{◌≡◌, ℕ, ◌≤◌, List, slice_index, sym, ◌∙◌}
use Rattle.npf_types.specs.declared.key.Key.{Key}
use Rattle.npf_core.specs.Machine.{Machine}
use Rattle.npf_cells_words.specs.{declared.layout.{Layout.Layout, Pool.TheVariants.Slots}, Layout.{root_at, note_field, field_at}, Places.place_at}
use Rattle.npf_cells_words.proofs.WordLemmas.{field_behind, place_behind}
use Rattle.npf_cells_leaves.{specs.Trie.trie_words, proofs.TrieLemmas.cell_same}
use Rattle.npf_cells_lives.{specs.Turns.StaysAt, proofs.NoteLemmas.NotesStay}

pub notes_behind : {S : Type 0} (layout : Layout) (k k' : Machine S) (words words' : List ℕ) → ((j : ℕ) → root_at layout ≤ j → slice_index words' j ≡ slice_index words j) →
    ((key : Key) → k'.holder key ≡ k.holder key) → ((slot : ℕ) → StaysAt (k.slot slot) (k'.slot slot)) →
    NotesStay layout k k' (trie_words layout words).cell (trie_words layout words').cell words words'
notes_behind layout k k' words words' same holder slots = record {
  cells = λ digits are level p on. cell_same layout words words' p (same (place_at layout p) (place_behind layout p));
  notes = λ slot way. same (field_at layout Slots slot (note_field way)) (field_behind layout Slots slot (note_field way));
  held = λ key found is. holder key ∙ is;
  back = λ key found is. sym (holder key) ∙ is;
  slots = slots;
}
