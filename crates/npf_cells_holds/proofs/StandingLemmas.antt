-- The leaf of a key that a connection holds stands where the key's path ends, and the key is that of the slot's words.
use Rattle.std.proofs.Common.{◌≡◌, ◌≢◌, ◌⊎◌, ℕ, Bool, true, false, cond, Option, Some, None, List, slice_index, refl, sym, ap, ◌∙◌, inl, inr}
use Rattle.npf_types.specs.declared.key.{Key.Key, Way.Way}
use Rattle.npf_core.specs.{declared.{conn_id.ConnId.ConnId, found.Found.Found}, Machine.{Machine, Holds, HoldsNone, HoldsSome, is_key}, NextState.is_found}
use Rattle.npf_core.proofs.EqualityLemmas.{is_key-Decides, is_found-Decides}
use Rattle.npf_paths.specs.{declared.{cell.Cell.{Cell, TheVariants.{Empty, Leaf, Node, Mark}}, place.Place.Place}, Paths.EndsAt}
use Rattle.npf_cells_words.{specs.{declared.layout.Layout.Layout, MarkWords.shown_of, Places.{IsInTrie, is_in_trie, place_at}}, proofs.WordLemmas.in_trie}
use Rattle.npf_cells_leaves.specs.{declared.trie.TrieSide.TrieSide, Trie.{cell_in, digits_of, TrieWords, trie_words, leaf_found, holder_at, Trie}}
use Rattle.npf_cells_leaves.proofs.{StandLemmas.path_ends, TrieLemmas.are_digits}

-- what stands where the path of a held key ends
pub record SaysHolder (t : TrieWords) (c : Cell) (key : Key) (found : Found) : Type 0 where
  pub leaf : c ≡ Leaf found.id.slot found.way
  pub key_is : t.key found.id.slot found.way ≡ key
  pub inc_is : t.inc found.id.slot ≡ found.id.inc

says_holder : (t : TrieWords) (c : Cell) (key : Key) (found : Found) → holder_at t c key ≡ Some found → SaysHolder t c key found
says_holder t Empty key found e = absurd cc
says_holder t (Leaf slot way) key found e = by_key (is_key (t.key slot way) key) refl e
  where
    by_key : (b : Bool) → is_key (t.key slot way) key ≡ b → cond {A = Option Found} b (Some (leaf_found t slot way)) None ≡ Some found → SaysHolder t (Leaf slot way) key found
    by_key true is same =
        let one : leaf_found t slot way ≡ found = cc in
        let slots : slot ≡ found.id.slot = ap (λ (f : Found). f.id.slot) one in
        let ways : way ≡ found.way = ap (λ (f : Found). f.way) one in
        record {
          leaf = λ i. Leaf (slots i) (ways i);
          key_is = (λ i. t.key (sym slots i) (sym ways i)) ∙ (is_key-Decides (t.key slot way) key).0 is;
          inc_is = ap t.inc (sym slots) ∙ ap (λ (f : Found). f.id.inc) one;
        }
    by_key false is same = absurd cc
says_holder t (Node node) key found e = absurd cc
says_holder t Mark key found e = absurd cc

-- a leaf stands in a place that the table has
pub leaf_within : (layout : Layout) (words : List ℕ) (p : Place) (slot : ℕ) (way : Way) → cell_in layout words p ≡ Leaf slot way → IsInTrie layout p
leaf_within layout words p slot way e = by_place (is_in_trie layout p) refl e
  where
    by_place : (b : Bool) → is_in_trie layout p ≡ b → cond b (shown_of (slice_index words (place_at layout p))) Empty ≡ Leaf slot way → IsInTrie layout p
    by_place true there is = in_trie layout p there
    by_place false there is = absurd cc

module _ {S V : Type 0} (side_of : V → TrieSide) (digest : Key → ℕ) (layout : Layout) (published : List ℕ) (k : Machine S) (words : List ℕ)
    (views : List V) (kept : Trie side_of digest layout published k words views) (conn : ConnId) (way : Way) where
  abbrev t : TrieWords
  t = trie_words layout words

  -- where a key's path ends, and that the connection's leaf stands there
  pub record StandsAtEnd (key : Key) : Type 0 where
    pub level : ℕ
    pub place : Place
    pub ends : EndsAt (digits_of digest key) t.cell level place
    pub says : SaysHolder t (t.cell place) key (record { id = conn; way = way })

  pub stands_at_end : (key : Key) → Holds k conn way key → StandsAtEnd key
  stands_at_end key holds =
      let end = path_ends side_of digest layout published k words views kept (digits_of digest key) (are_digits digest key) in
      record {
        level = end.0;
        place = end.1;
        ends = end.2;
        says = says_holder t (t.cell end.1) key (record { id = conn; way = way }) (sym (kept.ends key end.0 end.1 end.2) ∙ holds);
      }

  -- so it holds the key of its slot's words, or none
  pub held_or_none : HoldsSome k conn way ⊎ HoldsNone k conn way
  held_or_none = by_holder (k.holder (t.key conn.slot way)) refl
    where
      asked : Found
      asked = record { id = conn; way = way }

      none : k.holder (t.key conn.slot way) ≢ Some asked → HoldsNone k conn way
      none other key holds = other (ap k.holder (stands_at_end key holds).says.key_is ∙ holds)

      by_holder : (x : Option Found) → k.holder (t.key conn.slot way) ≡ x → HoldsSome k conn way ⊎ HoldsNone k conn way
      by_holder None e = inr (none (λ is. let no : None ≡ Some asked = sym e ∙ is in cc))
      by_holder (Some found) e = by_test (is_found found asked) refl
        where
          by_test : (b : Bool) → is_found found asked ≡ b → HoldsSome k conn way ⊎ HoldsNone k conn way
          by_test true same = inl (t.key conn.slot way, e ∙ ap (λ (f : Found). Some f) ((is_found-Decides found asked).0 same))
          by_test false differs = inr (none (λ is. (let both : Some found ≡ Some asked = sym e ∙ is in let one : found ≡ asked = cc in
              let yes = (is_found-Decides found asked).1 one in let no : true ≡ false = sym yes ∙ differs in cc)))
