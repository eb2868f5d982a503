-- The notes of a slot whose turn nobody has name the places of its connection's keys.
use Rattle.std.proofs.Common.{◌≡◌, ℕ, ◌<◌, ◌≤◌, Bool, true, false, cond, Option, Some, None, sym, ap, ◌∙◌, arith}
use Rattle.atomic_table.specs.Table.{State}
use Rattle.npf_types.specs.declared.key.{Key.Key, Way.Way}
use Rattle.npf_core.specs.{declared.{conn_id.ConnId.ConnId, found.Found.Found}, History.state_of, Machine.{Holds, is_key}, Meaning.Meaning}
use Rattle.npf_paths.specs.declared.{cell.Cell.{Cell, TheVariants.{Empty, Leaf, Node, Mark}}, place.Place.Place}
use Rattle.npf_cells_words.specs.{declared.layout.Layout.Layout, Codes.place_code, Layout.note_field}
use Rattle.npf_paths.specs.declared.place.Place.TheVariants as Places
use Rattle.npf_seats.proofs.SumLemmas.{one_of_sum}
use Rattle.npf_cells_leaves.{specs.Trie.{digits_of, TrieWords, trie_words, holder_at}, proofs.{StandLemmas.path_ends, TrieLemmas.are_digits}}
use Rattle.npf_cells_lives.{specs.{Deaths.last_id, Notes.{note_word, NobodyAhead}, Turns.{Running, has_turn, turn_word}}, proofs.TurnLemmas.has_once}
use Rattle.npf_cells_rule.specs.{declared.view.CellView.CellView, Cells.IsCells, NoteLaw.{NamesEnd, NotesNameKeys, BareNotesAreZero}}
use Rattle.npf_cells_rule.specs.Views.{turn_side, trie_side}

-- no place has the number 0
pub code_above : (p : Place) → 1 ≤ place_code p
code_above (Places.Root digit) = omega arith
code_above (Places.Node node digit) = omega arith

-- a holder is that of a leaf
holds_leaf : (t : TrieWords) (c : Cell) (key : Key) (id : ConnId) (way : Way) → holder_at t c key ≡ Some (record { id = id; way = way }) → c ≡ Leaf id.slot way
holds_leaf t Empty key id way e = absurd cc
holds_leaf t (Leaf slot w) key id way e = by_key (is_key (t.key slot w) key) e
  where
    by_key : (b : Bool) → cond {A = Option Found} b (Some (record { id = record { slot = slot; inc = t.inc slot }; way = w })) None ≡ Some (record { id = id; way = way }) →
        Leaf slot w ≡ Leaf id.slot way
    by_key true is =
        let mine : Found = record { id = record { slot = slot; inc = t.inc slot }; way = w } in
        let theirs : Found = record { id = id; way = way } in
        let same : mine ≡ theirs = cc in
        λ i. Leaf (ap (λ (f : Found). f.id.slot) same i) (ap (λ (f : Found). f.way) same i)
    by_key false is = absurd cc
holds_leaf t (Node node) key id way e = absurd cc
holds_leaf t Mark key id way e = absurd cc

module _ {S A R : Type 0} (m : Meaning S A R) (layout : Layout) (digest : Key → ℕ) (s : State (Running S) (CellView S A R)) (kept : IsCells m digest layout s) where
  -- who is ahead of a note has its slot's turn
  nobody_ahead : (slot field : ℕ) → slot < layout.slots → turn_word layout s.words slot ≡ 0 → NobodyAhead turn_side s.views slot field
  nobody_ahead slot field within free j v at is =
      let none = sym (kept.turns.says slot within) ∙ free in
      let mine = one_of_sum (λ (u : CellView S A R). has_turn slot u.turn) s.views j v at in
      let once : has_turn slot v.turn ≡ 1 = ap (has_turn slot) is.has ∙ (ap (λ p. has_turn p (Some is.mine)) (sym is.there) ∙ has_once is.mine) in
      absurd (omega (arith, none, mine, once))

  pub names_end : (slot : ℕ) (way : Way) (key : Key) → NobodyAhead turn_side s.views slot (note_field way) →
      Holds (state_of m kept.log) (last_id (state_of m kept.log) slot) way key → NamesEnd digest layout s.words key (note_word layout s.words slot way)
  names_end slot way key nobody holds =
      let end = path_ends trie_side digest layout kept.published (state_of m kept.log) s.words s.views kept.trie (digits_of digest key) (are_digits digest key) in
      let stands = holds_leaf (trie_words layout s.words) ((trie_words layout s.words).cell end.1) key (last_id (state_of m kept.log) slot) way (sym (kept.trie.ends key end.0 end.1 end.2) ∙ holds) in
      record {
        level = end.0;
        place = end.1;
        ends = end.2;
        names = kept.notes.named (digits_of digest key) end.0 end.1 slot way (are_digits digest key) end.2.on_path stands nobody;
      }

pub notes_name_keys : {S A R : Type 0} (m : Meaning S A R) (layout : Layout) → NotesNameKeys m layout
notes_name_keys m layout digest s kept slot way key within free holds = names_end m layout digest s kept slot way key (nobody_ahead m layout digest s kept slot (note_field way) within free) holds

pub bare_notes_zero : {S A R : Type 0} (m : Meaning S A R) (layout : Layout) → BareNotesAreZero m layout
bare_notes_zero m layout digest s kept slot way within live none = kept.notes.bare slot way within live none
