-- Kind 15 where what stands in a place is stored again keeps the rule.
use Rattle.std.{specs.List.Contains, proofs.Common.{◌≤◌, length, ◌≡◌, ◌≢◌, ℕ, List, set, refl, sym, ap, ◌∙◌, subst, ⊎_elim, inl, arith, length-set}}
use Rattle.std.proofs.lemmas.List.{get_or-set_other}
use mathlib.Core.Option.{some}
use lib.ListN.{get_elem?}
use Rattle.atomic_table.specs.Table.{State, Me, Step, Allows, stepped, keeps}
use Rattle.npf_types.specs.declared.key.{Key.Key, Way.TheVariants.{Forward, Backward, Port}}
use Rattle.npf_core.specs.{History.state_of, Machine.Machine, Meaning.Meaning}
use Rattle.npf_paths.specs.{declared.{cell.Cell.{Cell, TheVariants.{Empty, Leaf, Node, Mark}}, place.Place.Place}, CellWords.{cell_of, cell_word}}
use Rattle.npf_paths.{specs.{Paths.{IsOnPath, IsEnd}, Places.lock_of}, proofs.FillingLemmas.same_or_apart}
use Rattle.npf_cells_words.{specs.{declared.layout.Layout.Layout, Places.{IsInTrie, place_at}, Layout.notes_field}, proofs.MarkLemmas.said_shown}
use Rattle.npf_cells_words.proofs.WordLemmas.{place_behind}
use Rattle.npf_seats.proofs.PrefixLemmas.{none_listed}
use Rattle.npf_cells_leaves.specs.{Sights.SeesLocked, declared.trie.TrieSide.TrieSide, Trie.{cell_in, digits_of, TrieWords, trie_words}}
use Rattle.npf_cells_leaves.proofs.TrieLemmas.{KnowsNoMore, are_digits, trie_same}
use Rattle.npf_cells_lives.proofs.{ConnLemmas.{builds-kept, unstored-set, conns-same}, LockLemmas.{locks-same, holders-set}, NoteLemmas.same_ahead}
use Rattle.npf_cells_lives.{proofs.StoredLemmas.{stored_kept, stored-set}, specs.Turns.Running}
use Rattle.npf_cells_rule.{specs.{declared.view.CellView.CellView, Cells.IsCells, Views.{lock_side, pool_side, trie_side}}, proofs.DeathFrames.deaths_on}
use Rattle.npf_cells_rule.proofs.{Frames.{alone_still, private_step, turns_apart, notes_apart}, MarkFrames.meets_less, MarkMetLemmas.marks_in_place}
use Rattle.npf_cells_holds.specs.PublishKinds.{publishing, IsUnmarkedPlace, StoresAgain}
use Rattle.npf_cells_holds.proofs.PlaceLemmas.{cell_here, cell_else, key_else, inc_else, parent_else, turn_else, lock_else, own_else, note_else}

-- what the pass saw stands there still, on a key's path
pub record StandsThere (digest : Key → ℕ) (t : TrieWords) (p : Place) (cell : Cell) : Type 0 where
  pub key : Key
  pub level : ℕ
  pub on_path : IsOnPath (digits_of digest key) t.cell level p
  pub is : t.cell p ≡ cell

-- a cell's word is read as that cell
word_read : (c : Cell) → cell_of (cell_word c) ≡ c
word_read Empty = refl
word_read (Leaf slot Forward) = grind arith
word_read (Leaf slot Backward) = grind arith
word_read (Leaf slot Port) = grind arith
word_read (Node node) = grind arith
word_read Mark = refl

-- so that of any other than a mark is read as none
pub real_word : (c : Cell) → c ≢ Mark → cell_of (cell_word c) ≢ Mark
real_word c real mark = real (sym (word_read c) ∙ mark)

-- a store makes the pass know no more of the trie
publishes_less : (side : TrieSide) → KnowsNoMore side (publishing side)
publishes_less side = record {
  stands = λ point e. e;
  leaf = λ leaf e. e;
  seen = λ x e. absurd cc;
  locks = refl;
  answered = λ i c. c;
  marks = refl;
  emptied = λ e is. absurd cc;
  met_mark = λ y is. is;
  grown = refl;
  regained = refl;
}

module _ {S A R : Type 0} (m : Meaning S A R) (digest : Key → ℕ) (layout : Layout) where
  module _ (s : State (Running S) (CellView S A R)) (id : ℕ) (me : Me (Running S) (CellView S A R)) (kept : IsCells m digest layout s)
      (at : get_elem? s.views id ≡ some me.0) (p : Place) (inside : IsInTrie layout p) where
    abbrev k : Machine S
    k = state_of m kept.log

    abbrev t : TrieWords
    t = trie_words layout s.words

    pub stands_there : (cell : Cell) → SeesLocked me.0.trie p cell → cell ≢ Mark → StandsThere digest t p cell
    stands_there cell sees real =
        let stays = (kept.trie.each id me.0 at).seen sees.saw sees.seen in
        record {
          key = sees.saw.key;
          level = sees.saw.level;
          on_path = subst (λ q. IsOnPath (digits_of digest sees.saw.key) t.cell sees.saw.level q) sees.there stays.on_path;
          is = ap t.cell (sym sees.there) ∙ (stays.locked (subst (λ q. Contains me.0.trie.locks (lock_of q)) (sym sees.there) sees.locked) (λ mark. real (sym sees.was ∙ mark)) ∙ sees.was);
        }

    -- the same is stored again
    pub stored_again : 1 ≤ length me.0.seats.readers → (cell : Cell) → SeesLocked me.0.trie p cell → IsEnd cell → cell ≢ Mark → IsUnmarkedPlace me.0.trie.marks p →
        IsCells m digest layout (stepped s (place_at layout p) (cell_word cell) id me.1 (record me.0 { trie = publishing me.0.trie }) keeps)
    stored_again place cell sees end real unmarked =
        let there = stands_there cell sees real in
        let w : CellView S A R = record me.0 { trie = publishing me.0.trie } in
        let are = are_digits digest there.key in
        private_step m digest layout s (place_at layout p) (cell_word cell) id me.1 me.0 w kept at (place_behind layout p) refl refl refl refl refl (λ conn c. c)
        (alone_still me.0 w (kept.alone id me.0 at) place refl (λ none. absurd (none_listed (lock_of p) (subst (λ locks. Contains locks (lock_of p)) none.locks sees.locked))))
        (trie_same trie_side digest layout kept.published k k s.words words s.views id me.0 w kept.trie at (publishes_less me.0.trie) (record {
          holder = λ key. refl;
          claimed = λ identity c. c;
          dead = λ identity e. e;
          cells = λ digits _ level q on. same_cell cell real there.is q;
          parents = λ digits level q node are on is. parent_else m digest layout s kept p inside (cell_word cell) node;
          keys = λ slot way right. key_else m digest layout s kept p inside (cell_word cell) slot way;
          incs = λ slot way right. inc_else m digest layout s kept p inside (cell_word cell) slot;
        }))
        (conns-same pool_side m layout kept.log s.words words s.views (set s.views id w) kept.connections (length-set s.words (place_at layout p) (cell_word cell))
        (λ slot h. inc_else m digest layout s kept p inside (cell_word cell) slot)
        (builds-kept pool_side k s.views id me.0 w at refl refl kept.connections.each) (unstored-set pool_side s.views id me.0 w at refl))
        (stored-set pool_side layout words s.views id w
        (stored_kept layout s.words words me.0.pools w.pools (kept.stored id me.0 at) refl (λ pool place field own. own)
        (own_else m digest layout s kept p inside (cell_word cell) (digits_of digest there.key) there.level are there.on_path id me.0 at))
        (λ j u ne e. stored_kept layout s.words words u.pools u.pools (kept.stored j u e) refl (λ pool place field own. own)
        (own_else m digest layout s kept p inside (cell_word cell) (digits_of digest there.key) there.level are there.on_path j u e)))
        (locks-same lock_side layout s.words words s.views (set s.views id w) kept.locks
        (lock_else m digest layout s kept p inside (cell_word cell)) (holders-set lock_side layout s.views id me.0 w at refl))
        (turns_apart m digest layout s (place_at layout p) (cell_word cell) id me.0 w k kept at refl refl
        (λ slot field h f. turn_else m digest layout s kept p inside (cell_word cell) slot field) (λ slot. inl refl))
        (deaths_on m digest layout s (place_at layout p) (cell_word cell) id me.0 w kept at refl refl (record { rests = λ i dead bare rests. (rests, refl) })
        (let same = get_or-set_other s.words (place_at layout p) 0 (cell_word cell) 0 (λ e. absurd (let far = place_behind layout p in omega (arith, e, far))) in omega (arith, same))
        (λ slot h. turn_else m digest layout s kept p inside (cell_word cell) slot notes_field))
        (notes_apart m digest layout s words id me.0 w k kept at (same_ahead me.0.turn me.0.turn refl) refl refl (λ i c. c) (record {
          cells = λ digits _ level q on. same_cell cell real there.is q;
          notes = note_else m digest layout s kept p inside (cell_word cell);
          held = λ key found is. is;
          back = λ key found is. is;
          slots = λ slot. inl refl;
        }))
        (marks_in_place m digest layout s kept p inside id (cell_word cell) me.0 w kept.published (digits_of digest there.key) there.level at sees.locked are there.on_path
        (subst IsEnd (sym there.is) end) (real_word cell real) unmarked (λ n c. c)
        (meets_less me.0.trie (publishing me.0.trie) (publishes_less me.0.trie)) refl refl refl (λ x c one. refl) refl)
      where
        words : List ℕ
        words = set s.words (place_at layout p) (cell_word cell)

        same_cell : (c : Cell) → c ≢ Mark → t.cell p ≡ c → (q : Place) → cell_in layout (set s.words (place_at layout p) (cell_word c)) q ≡ t.cell q
        same_cell c real is q = ⊎_elim
            (λ (e : q ≡ p). ap (cell_in layout (set s.words (place_at layout p) (cell_word c))) e
            ∙ (cell_here m digest layout s kept p inside (cell_word c) ∙ (said_shown c real ∙ (sym is ∙ ap t.cell (sym e)))))
            (λ (ne : q ≢ p). cell_else m digest layout s kept p inside (cell_word c) q ne)
            (same_or_apart q p)

  pub may_store_again : (st : Step (Running S)) (id n : ℕ) (p : Place) (cell : Cell) (me : Me (Running S) (CellView S A R)) → 1 ≤ length me.0.seats.readers →
      IsInTrie layout p → SeesLocked me.0.trie p cell → IsEnd cell → cell ≢ Mark → IsUnmarkedPlace me.0.trie.marks p →
      Allows (IsCells m digest layout) n id me (place_at layout p) (λ _. cell_word cell) (λ _. StoresAgain st me (cell_word cell))
  may_store_again st id n p cell me place inside sees end real unmarked s kept homes at bound = (
    record me.0 { trie = publishing me.0.trie },
    keeps,
    tt,
    stored_again s id me kept at p inside place cell sees end real unmarked,
    record { is = refl },
  )
