-- A store in a place of the trie that the pass has locked: of what stands in places it changes that alone, and no other word.
use Rattle.std.{specs.List.Contains, proofs.Common.{◌≡◌, ◌≢◌, ℕ, ◌+◌, List, [], ◌∷◌, set, slice_index, ap, ◌∙◌, subst, ⊎_elim, arith}}
use Rattle.std.proofs.lemmas.List.{get_or-set_same, get_or-set_other}
use mathlib.Core.Option.{some}
use lib.ListN.{get_elem?}
use Rattle.atomic_table.specs.Table.{State}
use Rattle.npf_types.specs.declared.key.{Key.Key, Way.Way}
use Rattle.npf_core.specs.Meaning.{Meaning}
use Rattle.npf_paths.specs.{declared.place.{Lock.Lock, Place.Place}, Paths.{AreDigits, IsOnPath}}
use Rattle.npf_cells_words.specs.declared.layout.{Layout.Layout, Pool.{Pool, TheVariants.{Slots, Nodes}}}
use Rattle.npf_cells_words.specs.{Layout.{inc_field, parent_field, key_field, note_field, field_at}, MarkWords.shown_of}
use Rattle.npf_cells_words.specs.Places.{lock_at, IsLockOf, IsInTrie, place_at}
use Rattle.npf_cells_words.proofs.WordLemmas.{place_reach, one_word, slot_apart, parent_apart, lock_apart}
use Rattle.npf_cells_leaves.{specs.Trie.{cell_in, key_word, trie_words}, proofs.TrieLemmas.{cell_there, cell_kept}}
use Rattle.npf_cells_lives.specs.{Notes.note_word, Stored.IsOwnField, Turns.Running}
use Rattle.npf_cells_rule.{specs.{declared.view.CellView.CellView, Cells.IsCells}, proofs.MetLemmas.{met_at, unowned}}

module _ {S A R : Type 0} (m : Meaning S A R) (digest : Key → ℕ) (layout : Layout) (s : State (Running S) (CellView S A R))
    (kept : IsCells m digest layout s) (p : Place) (inside : IsInTrie layout p) (value : ℕ) where
  abbrev words' : List ℕ
  words' = set s.words (place_at layout p) value

  pub other_word : (j : ℕ) → j ≢ place_at layout p → slice_index words' j ≡ slice_index s.words j
  other_word j ne = get_or-set_other s.words (place_at layout p) j value 0 ne

  -- what stands there, and elsewhere
  pub cell_here : cell_in layout words' p ≡ shown_of value
  cell_here =
      let reach = place_reach layout p inside in
      let long = kept.connections.reach in
      cell_there layout words' p inside ∙ ap shown_of (get_or-set_same s.words (place_at layout p) value 0 (omega (arith, reach, long)))

  pub cell_else : (q : Place) → q ≢ p → cell_in layout words' q ≡ cell_in layout s.words q
  cell_else q ne = cell_kept layout s.words words' q (λ there. other_word (place_at layout q) (λ e. ne (one_word layout q p there inside e)))

  -- the words of slots and the locks
  pub key_else : (slot : ℕ) (way : Way) → (trie_words layout words').key slot way ≡ (trie_words layout s.words).key slot way
  key_else slot way i = record { 0 = word 0 i ∷ word 1 i ∷ word 2 i ∷ word 3 i ∷ word 4 i ∷ [] }
    where
      word : (place : ℕ) → key_word layout words' slot way place ≡ key_word layout s.words slot way place
      word place = other_word (field_at layout Slots slot (key_field way + place)) (slot_apart layout p slot (key_field way + place) inside)

  pub inc_else : (slot : ℕ) → (trie_words layout words').inc slot ≡ (trie_words layout s.words).inc slot
  inc_else slot = other_word (field_at layout Slots slot inc_field) (slot_apart layout p slot inc_field inside)

  -- the parents of nodes
  pub parent_else : (node : ℕ) → (trie_words layout words').parent node ≡ (trie_words layout s.words).parent node
  parent_else node = other_word (field_at layout Nodes node parent_field) (parent_apart layout p node inside)

  pub note_else : (slot : ℕ) (way : Way) → note_word layout words' slot way ≡ note_word layout s.words slot way
  note_else slot way = other_word (field_at layout Slots slot (note_field way)) (slot_apart layout p slot (note_field way) inside)

  pub turn_else : (slot field : ℕ) → slice_index words' (field_at layout Slots slot field) ≡ slice_index s.words (field_at layout Slots slot field)
  turn_else slot field = other_word (field_at layout Slots slot field) (slot_apart layout p slot field inside)

  pub lock_else : (lock : Lock) → IsLockOf layout lock → slice_index words' (lock_at layout lock) ≡ slice_index s.words (lock_at layout lock)
  lock_else lock h = other_word (lock_at layout lock) (lock_apart layout p lock inside h)

  -- a place that a path meets is in none of a pass's own nodes
  pub own_else : (digits : ℕ → ℕ) (level : ℕ) → AreDigits digits → IsOnPath digits (trie_words layout s.words).cell level p → (j : ℕ) (v : CellView S A R) → get_elem? s.views j ≡ some v →
      (pool : Pool) (place field : ℕ) → IsOwnField layout v.pools pool place field → slice_index words' (field_at layout pool place field) ≡ slice_index s.words (field_at layout pool place field)
  own_else digits level are on j v at Slots place field own = other_word (field_at layout Slots place field) (slot_apart layout p place field inside)
  own_else digits level are on j v at Nodes place field own = other_word (field_at layout Nodes place field) (λ e. ⊎_elim
      (λ low. absurd (omega (arith, low, e)))
      (λ x. let same : x.0 ≡ place = (let there = x.2 in let d = x.3 in let short = own.2 in omega (arith, there, d, short, e)) in
      unowned m digest layout s kept j v place at own.1 own.0 (subst (Contains kept.published) same x.5))
      (met_at m digest layout s kept digits level p are on))
